pub mod Ascending
pub mod Deciding
mod Gathering
mod Insertion
pub mod Moves
pub mod Selections
pub mod Standing
mod Steps
pub mod Reading
pub mod Walking
