-- The board's place: one clock on, and at once.
pub mod Place
pub mod Spot
pub mod State
pub mod Laws
pub mod Settled
pub mod Beam
pub mod Walk
