-- The records of an index of phrases as columns of numbers (02, R-6).
pub mod Columns
pub mod Laws
