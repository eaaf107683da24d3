pub mod CpuInterface
