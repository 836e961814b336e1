pub mod States
pub mod Registers
pub mod Commands
pub mod Refusals
pub mod Causes
pub mod Calls
pub mod Answers
pub mod Runs
