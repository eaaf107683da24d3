-- Laws that belong to no one function.
pub mod Grouping
pub mod Lowest
pub mod Offers
