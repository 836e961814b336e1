pub mod One
pub mod OneStation
pub mod OneBreaker
pub mod Tables
