-- Two boards that fetch the same bytes show the same.
pub mod Pages
pub mod Views
pub mod Drawn
pub mod Steps
pub mod Shown
