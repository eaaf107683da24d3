pub mod Save
pub mod Fitting
