pub mod Image
pub mod Parts
