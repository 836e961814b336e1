pub mod Steps
mod Keeps
