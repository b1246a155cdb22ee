pub mod Agreeing
pub mod Declaring
pub mod Scenes
