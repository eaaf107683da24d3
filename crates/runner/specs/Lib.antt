pub mod Runner
pub mod Feeding
