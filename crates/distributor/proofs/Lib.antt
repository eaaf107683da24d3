-- Laws that belong to no one function.
pub mod ByteLaws
pub mod Registers
