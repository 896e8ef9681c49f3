pub mod Answers
pub mod Places
pub mod Ranks
pub mod Selected
pub mod Staying
pub mod Theorems
