-- Levels, the look of a cell, and its dots.
pub mod Levels
pub mod Table
pub mod Scene
pub mod Look
pub mod Cell
pub mod Twice
pub mod At
pub mod Lent
