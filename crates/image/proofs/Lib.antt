pub mod Cases
pub mod ByParts
