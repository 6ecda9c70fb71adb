-- The register calls.
pub mod Write
pub mod Read
pub mod Video
pub mod Laws
