pub mod Stops
pub mod Stopping
