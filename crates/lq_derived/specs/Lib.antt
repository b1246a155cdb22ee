pub mod Declared
pub mod Reported
