pub mod Asked
pub mod Covers
mod Decided
mod FirstPairs
pub mod Fitness
pub mod Keeping
pub mod Keeps
pub mod LawProof
pub mod Lines
pub mod Points
pub mod Ranges
pub mod Released
pub mod Tables
pub mod Totals
pub mod Unmatched
