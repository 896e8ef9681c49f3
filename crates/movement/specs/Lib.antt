pub mod Inner
pub mod Meaning
pub mod Moved
pub mod Opening
