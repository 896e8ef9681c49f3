pub mod Theorems
pub mod Words
