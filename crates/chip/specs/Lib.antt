pub mod Places
pub mod Views
pub mod Model
pub mod Outcomes
pub mod Losses
pub mod Orders
pub mod Reads
pub mod Turns
