-- An index of phrases (02, R-6).
pub mod Laws
pub mod Exact
