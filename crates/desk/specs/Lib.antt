pub mod Day
pub mod Plan
