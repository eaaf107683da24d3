-- Laws that belong to no one function.
pub mod Access
pub mod Corners
pub mod Map
pub mod Named
pub mod Private
pub mod Reach
pub mod Table
pub mod Tests
pub mod Ways
