-- The registers' fields, the page check, and what an accepted page gives.
pub mod Fields
pub mod Check
pub mod Laws
pub mod Decoded
