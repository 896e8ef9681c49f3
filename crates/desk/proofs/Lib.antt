mod Kept
mod Onward
mod Passes
mod ZeroBytes
