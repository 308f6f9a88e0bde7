pub mod Noting
pub mod ReadBack
