mod Reading
mod Playing
pub mod Counting
