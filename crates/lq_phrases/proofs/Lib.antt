pub mod Loops
pub mod TermLaws
pub mod Failing
pub mod Missing
