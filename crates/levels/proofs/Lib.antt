-- What an acknowledge does to the lines, and what every call does.
pub mod Falls
pub mod Rises
