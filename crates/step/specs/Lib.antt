-- One clock of the board.
pub mod Signals
pub mod Step
pub mod Shown
pub mod Laws
pub mod After
