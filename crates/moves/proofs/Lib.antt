-- What each move leaves alone, in any words that are a state; and that each keeps a controller a controller.
pub mod Acknowledges
pub mod Controllers
pub mod Frames
pub mod Gives
pub mod Parts
pub mod Pending
pub mod Records
pub mod Slots
pub mod Sounds
