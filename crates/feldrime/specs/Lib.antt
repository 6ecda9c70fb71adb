-- The calls for C.
pub mod Answers
pub mod Pages
pub mod Boards
pub mod LineDraw
pub mod PictureDraw
pub mod RowCells
pub mod Catalogue
pub mod Phrases
pub mod Laws
pub mod Step
