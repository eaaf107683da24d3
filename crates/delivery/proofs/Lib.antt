-- Laws that belong to no one function.
pub mod Answers
pub mod Canonicals
pub mod Deactivation
pub mod Ended
pub mod Given
pub mod Registers
pub mod Sounds
