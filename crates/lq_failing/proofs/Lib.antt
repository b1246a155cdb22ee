pub mod SpentLaws
pub mod FailLaws
