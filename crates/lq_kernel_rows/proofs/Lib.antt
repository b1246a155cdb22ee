pub mod Faults
pub mod Fits
pub mod Growing
pub mod Following
pub mod Scenes
pub mod Settling
