-- Laws that belong to no one function.
pub mod Soundness
pub mod Stacks
