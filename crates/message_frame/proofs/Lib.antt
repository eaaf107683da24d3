-- Laws that belong to no one function.
pub mod Called
pub mod Messages
pub mod Windows
