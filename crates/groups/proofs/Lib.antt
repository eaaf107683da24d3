pub mod Numbers
pub mod Reading
pub mod Writing
pub mod Examples
