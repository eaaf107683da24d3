pub mod Fields
pub mod Word
