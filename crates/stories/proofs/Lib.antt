-- The user's stories, proved.
pub mod Begins
pub mod Calls
pub mod Elsewhere
pub mod Events
pub mod OnePulse
pub mod PulseInFlight
pub mod Retiring
pub mod SignalInFlight
pub mod Sources
pub mod Steady
pub mod Turns
pub mod TwoMessages
pub mod TwoRings
