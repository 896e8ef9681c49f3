mod Needing
mod Summing
