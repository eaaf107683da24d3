pub mod Reading
pub mod Walking
pub mod Load
