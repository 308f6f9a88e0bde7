pub mod Joined
pub mod Parts
pub mod Chunks
pub mod FirstNotes
pub mod Held
pub mod LocatedNotes
