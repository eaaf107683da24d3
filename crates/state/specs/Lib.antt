pub mod Loop
pub mod Layout
pub mod Words
pub mod Lent
pub mod Fresh
