pub mod Restarts
pub mod Taking
pub mod Trails
