-- The promises on frames and rows: wrong programs (must-fail) alter their definitions and statements, so they stand here.
pub mod Frames
pub mod Rows
pub mod FromC
pub mod Worked
