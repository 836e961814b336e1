pub mod Chips
pub mod Stations
