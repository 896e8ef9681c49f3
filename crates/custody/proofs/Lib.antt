mod Adding
mod Changed
mod Walks
