pub mod Counts
mod Bits
mod Listing
mod Weeks
