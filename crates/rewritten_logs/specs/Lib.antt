pub mod Linked
pub mod Rewritten
pub mod Restarts
