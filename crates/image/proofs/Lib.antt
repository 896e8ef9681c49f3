mod BigEndian
mod Pinned
pub mod Places
