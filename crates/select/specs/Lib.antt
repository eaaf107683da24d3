pub mod Select
pub mod Keys
