-- What waits stays until a call takes it, and then it is gone.
pub mod Accepted
pub mod BitLaws
pub mod BitWrites
pub mod Clearing
pub mod Going
pub mod Keeping
pub mod LineGoes
pub mod Lines
pub mod Messages
pub mod PendingGoes
pub mod PendingMoves
pub mod Pends
pub mod RecordMoves
pub mod RingGoes
pub mod Rings
