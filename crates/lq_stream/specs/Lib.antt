pub mod Stepping
pub mod Reading
pub mod Holding
pub mod Failing
pub mod Places
pub mod Turning
pub mod Asking
