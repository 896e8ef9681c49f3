mod Movements
mod Openings
