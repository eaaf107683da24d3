-- The test is `Lawful`, and the law of its loops.
pub mod Loops
pub mod Passing
pub mod Quiet
