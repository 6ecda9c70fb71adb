-- A page's numbers.
pub mod Numbers
pub mod Files
pub mod Laws
