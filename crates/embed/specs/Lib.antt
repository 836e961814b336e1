pub mod Kinds
pub mod States
pub mod Driving
pub mod Scripting
