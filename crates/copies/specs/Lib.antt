-- Bytes copied from one buffer into another.
pub mod Put
