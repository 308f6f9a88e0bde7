pub mod Prefixes
pub mod Encodings
pub mod SegmentBytes
pub mod Writers
pub mod Marks
pub mod Devices
