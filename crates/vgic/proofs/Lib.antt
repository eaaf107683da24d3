-- Laws that belong to no one function.
pub mod One
pub mod Packing
pub mod Retired
