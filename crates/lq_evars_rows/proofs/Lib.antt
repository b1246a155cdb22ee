pub mod Keeping
pub mod Simple
