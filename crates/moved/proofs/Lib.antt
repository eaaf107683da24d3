-- What a move leaves of a guest: all of it.
pub mod Moved
