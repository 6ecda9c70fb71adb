-- Promises about the calls: files, a page's numbers, an index of phrases.
pub mod Sizes
pub mod Again
pub mod Runs
pub mod Texts
pub mod Numbers
pub mod Saved
pub mod Moved
pub mod Index
