-- The record, and what its numbers may be.
pub mod State
pub mod Parts
pub mod Layout
pub mod Modes
pub mod Range
pub mod Laws
