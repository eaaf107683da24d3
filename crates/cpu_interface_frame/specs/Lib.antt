pub mod CpuInterfaceFrame
pub mod Seers
