pub mod Conversions
mod Digits
mod Months
mod Search
pub mod Spans
pub mod Weeks
