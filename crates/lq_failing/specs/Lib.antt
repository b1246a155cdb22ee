pub mod Fails
