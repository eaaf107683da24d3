-- What follows from demand 3's properties at once, and that a fresh controller is lawful.
pub mod Depths
pub mod Starting
