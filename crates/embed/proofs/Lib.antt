pub mod Seeing
pub mod Serving
pub mod Keeping
