pub mod Meaning
pub mod Ran
