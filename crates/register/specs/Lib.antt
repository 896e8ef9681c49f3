pub mod Holdings
pub mod Theorems
