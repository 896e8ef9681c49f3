pub mod Answers
pub mod Faults
pub mod Formats
pub mod Meaning
pub mod Theorems
