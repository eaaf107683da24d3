-- Laws that belong to no one function.
pub mod Accessors
pub mod Canonical
pub mod Decoded
pub mod Equal
pub mod Numbers
pub mod Own
pub mod Places
pub mod Ready
pub mod SlotKinds
pub mod Starting
pub mod Steps
pub mod Summary
pub mod Tests
pub mod Validated
pub mod WordBits
