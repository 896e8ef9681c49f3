pub mod Almanac
