-- A typed sheet becomes a page with a row table, and back (02, R-5).
pub mod ToTable
pub mod ToSheet
pub mod Marks
