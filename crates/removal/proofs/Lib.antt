mod Releasing
mod Removing
