pub mod History
pub mod Made
pub mod Refusals
pub mod Touch
