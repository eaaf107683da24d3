pub mod Frame
pub mod Ranges
pub mod Distributor
pub mod Finding
pub mod CpuInterface
