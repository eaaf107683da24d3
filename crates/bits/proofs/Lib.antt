-- Laws that belong to no one function.
pub mod BitLaws
pub mod Registers
pub mod Runs
