-- Laws that belong to no one function.
pub mod Digits
pub mod Fields
pub mod Puts
pub mod Spelling
