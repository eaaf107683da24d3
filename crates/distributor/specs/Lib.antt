pub mod Bytes
pub mod Values
