pub mod Environments
pub mod Looks
pub mod Lows
