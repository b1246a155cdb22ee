pub mod Low
pub mod Looks
