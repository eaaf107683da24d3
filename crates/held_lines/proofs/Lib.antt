-- The user's story, proved.
pub mod Silence
