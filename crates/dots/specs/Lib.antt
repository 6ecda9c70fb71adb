-- A cell's dots, as they are stored.
pub mod Stores
pub mod Width
pub mod Bytes
pub mod Overlap
pub mod Spread
pub mod Inks
pub mod Last
pub mod Half
