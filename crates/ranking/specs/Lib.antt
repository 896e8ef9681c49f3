pub mod Ranking
pub mod Lower
