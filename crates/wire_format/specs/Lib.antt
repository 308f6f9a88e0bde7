pub mod Frames
pub mod Laws
pub mod Connections
pub mod Replies
