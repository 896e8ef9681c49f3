pub mod Dates
pub mod Table
pub mod Theorems
pub mod Weekdays
