-- A whole picture.
pub mod Picture
pub mod Spill
pub mod Plan
pub mod Agree
