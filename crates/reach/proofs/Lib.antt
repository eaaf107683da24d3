-- What a call does with words past its extent: nothing.
pub mod Readings
pub mod Images
pub mod Around
pub mod Distributor
pub mod Interface
pub mod Outcomes
pub mod Registers
pub mod Calls
pub mod Beside
pub mod Extents
pub mod Never
pub mod Reach
