-- The rows of several workers in an order.
pub mod ContentionFree
pub mod Counts
pub mod CheckedOutSessions
pub mod KeptHands
pub mod Leases
pub mod Merging
pub mod Orders
pub mod Progress
pub mod Rows
pub mod Together
