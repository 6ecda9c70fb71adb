pub mod Units
pub mod Order
