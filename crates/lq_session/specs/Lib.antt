pub mod Sessions
pub mod Checking
pub mod Asides
