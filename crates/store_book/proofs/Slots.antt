-- The slots, the keeper's rows and the view of them, change by change.
pub mod Between
pub mod Changed
pub mod Filled
pub mod Placement
pub mod LeaseMarks
pub mod Pinned
pub mod Placed
pub mod Reclaimed
pub mod Shown
pub mod Swept
pub mod SweptSeen
pub mod Writes
