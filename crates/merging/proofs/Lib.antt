-- Laws of the steps that a write is made of, once for bit registers and once for byte arrays; then of writes, and of calls.
pub mod Joined
pub mod Bits
pub mod Sources
pub mod Bytes
pub mod Rising
pub mod Ways
pub mod Rings
pub mod Writes
pub mod Calls
pub mod Rows
pub mod Order
pub mod Messages
pub mod Asked
pub mod Where
pub mod Needed
