pub mod Bits
pub mod Run
