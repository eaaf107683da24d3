-- Laws that belong to no one function.
pub mod Running
pub mod Whole
