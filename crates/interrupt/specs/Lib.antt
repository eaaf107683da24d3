pub mod Types
pub mod With
pub mod Record
