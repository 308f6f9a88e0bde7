pub mod Prefixes
pub mod Replays
pub mod Restarts
pub mod Trails
