pub mod Reads
pub mod Means
