pub mod ListLoops
pub mod Exchanging
pub mod Seeing
pub mod Viewing
pub mod ViewingGoals
pub mod RootLaws
