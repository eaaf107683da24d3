-- The examples.
pub mod Examples
