pub mod ReadBack
pub mod Seen
