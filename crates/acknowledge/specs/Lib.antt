pub mod Acknowledge
pub mod Bound
