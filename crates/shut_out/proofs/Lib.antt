-- The theorems about what the promises shut out.
pub mod Computed
pub mod TwoKinds
pub mod Members
