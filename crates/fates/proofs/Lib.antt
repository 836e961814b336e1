mod Trying
mod Reading
mod Comparing
