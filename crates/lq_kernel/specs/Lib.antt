pub mod Answers
pub mod Closed
pub mod Steps
pub mod Declaring
