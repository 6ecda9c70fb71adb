-- The listing program: what it asks for is never refused.
pub mod Whole
