mod Passing
mod Counting
