-- Laws for decisions, for searches, for loops over lent buffers, and for what a contract leaves open.
pub mod Choice
pub mod Answer
pub mod Fill
pub mod Tab
pub mod Join
pub mod Search
