-- Laws that belong to no one function.
pub mod Numbers
pub mod Openings
pub mod Walks
pub mod Sections
pub mod Spis
