pub mod Wake
pub mod Halves
