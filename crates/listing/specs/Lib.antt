-- The listing: its bytes, what its calls answer, and what their proofs use.
pub mod Decimal
pub mod Listing
pub mod Bytes
pub mod Answers
pub mod Head
pub mod Line
