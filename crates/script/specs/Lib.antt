pub mod Request
pub mod Line
pub mod Reading
pub mod Text
