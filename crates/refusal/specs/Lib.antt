-- The refusal numbers.
pub mod Number
pub mod Laws
