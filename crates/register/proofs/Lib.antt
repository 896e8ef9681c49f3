pub mod Changed
pub mod Sums
