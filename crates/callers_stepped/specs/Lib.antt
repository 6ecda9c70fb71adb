-- Promises about the calls: a line drawn and a state reached by single steps, a line, and a moved page, drawn over its picture, a moved page stepped.
pub mod Lines
pub mod Asked
pub mod Pictures
pub mod Moved
pub mod States
