-- Page and font files.
pub mod Page
pub mod File
pub mod FontFile
pub mod Laws
pub mod FontLaws
pub mod Round
pub mod FontRound
