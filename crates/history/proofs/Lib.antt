-- Every call as a chain of moves, what a refusal comes to, what a call can touch, and what holds after every history.
pub mod Always
pub mod Calls
pub mod Chains
pub mod Each
pub mod Refusals
pub mod Touch
