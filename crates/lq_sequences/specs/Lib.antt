pub mod Straight
pub mod Sentences
