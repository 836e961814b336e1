pub mod Refusals
pub mod Records
pub mod Scripts
pub mod ScriptLawful
