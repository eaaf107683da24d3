-- Laws that belong to no one function.
pub mod Cases
pub mod Fields
pub mod Gathered
pub mod RecordWord
