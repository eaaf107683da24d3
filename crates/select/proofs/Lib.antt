-- Laws that belong to no one function.
pub mod Agree
pub mod KeyLaws
pub mod Meaning
pub mod Ready
pub mod SummaryWords
pub mod Walk
pub mod WordTests
