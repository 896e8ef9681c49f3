pub mod Bounds
pub mod Business
pub mod Notice
pub mod Theorems
