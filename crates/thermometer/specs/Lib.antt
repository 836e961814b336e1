pub mod Thermometers
