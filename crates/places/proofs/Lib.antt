-- Laws that belong to no one function.
pub mod Fits
pub mod LookUps
pub mod Sounds
