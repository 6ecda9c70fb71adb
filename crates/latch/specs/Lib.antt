-- What is latched when a cell is reached.
pub mod Held
pub mod Laws
