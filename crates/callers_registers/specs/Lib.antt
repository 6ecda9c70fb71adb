-- Promises about the calls: registers.
pub mod Ready
pub mod Addresses
pub mod Commands
pub mod Videos
pub mod Kept
