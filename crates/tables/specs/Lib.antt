-- What lines and pictures are drawn from.
pub mod Tables
pub mod Marks
pub mod Halves
pub mod Laws
pub mod Run
