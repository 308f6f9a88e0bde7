pub mod Commands
pub mod Digits
pub mod Extents
pub mod FieldTexts
