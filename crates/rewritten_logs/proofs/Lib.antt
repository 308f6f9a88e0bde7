pub mod Aligned
pub mod Links
pub mod Notes
pub mod Representing
pub mod Restarting
pub mod Starts
