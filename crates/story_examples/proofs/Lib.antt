-- The hypotheses of the stories hold of the examples.
pub mod Computed
