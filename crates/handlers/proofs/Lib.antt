-- The kernel's story, proved.
pub mod Keeping
pub mod Regrouping
pub mod Shielded
