-- The row table, the cell at a column, a row's first run, and all of a row's cells.
pub mod Feed
pub mod Rows
pub mod Run
pub mod RowCells
pub mod Laws
pub mod RowLaws
