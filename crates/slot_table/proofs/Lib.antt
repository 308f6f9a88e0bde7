pub mod Finding
pub mod Writes
pub mod Indexing
pub mod Stacking
pub mod Changes
pub mod SlotSets
pub mod Padding
