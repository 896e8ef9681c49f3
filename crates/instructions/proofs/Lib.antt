pub mod Leftmost
pub mod Worded
