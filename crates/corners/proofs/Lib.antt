-- The statement about the corner list, and what makes a history cheap to compute.
pub mod Started
pub mod Computed
