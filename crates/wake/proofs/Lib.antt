-- Laws that belong to no one function.
pub mod Readiness
pub mod Seen
pub mod Unseen
pub mod WakeSets
