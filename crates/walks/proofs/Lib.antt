-- Walks by hand that are proved once, for every struct of plain data or of a slice and a place, and every callee. They say nothing of any crate; `Readers` has what two of them ask of this one's types.
pub mod Scalar
pub mod Scalars
pub mod Forms
pub mod Parameters
pub mod Thin
pub mod Lends
pub mod Storing
pub mod Stores
pub mod Cursor
pub mod Apart
pub mod Inside
pub mod Readers
