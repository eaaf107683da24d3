pub mod Pieces
pub mod Bound
pub mod Saved
