pub mod MessageFrame
pub mod Framing
