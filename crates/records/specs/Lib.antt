-- The records of an index of phrases (02, R-6).
pub mod Records
pub mod Ends
pub mod Folds
