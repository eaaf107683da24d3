pub mod LawfulTest
pub mod Quiet
