pub mod Refusals
pub mod Chain
