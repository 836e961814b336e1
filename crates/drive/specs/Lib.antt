pub mod Images
pub mod Commands
pub mod Drives
pub mod DriveLawful
pub mod Services
