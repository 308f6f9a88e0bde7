-- The layers agree: their sums, counts and charges, and the change that a stored blob makes in them.
pub mod CanKeep
pub mod ChunkCharges
pub mod Keep
pub mod KeepCalls
pub mod LinkedSlots
pub mod SessionCharges
pub mod Sums
pub mod Ties
pub mod StoredBlobs
