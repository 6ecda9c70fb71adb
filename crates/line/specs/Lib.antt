-- A whole line.
pub mod Line
pub mod Length
pub mod Walk
