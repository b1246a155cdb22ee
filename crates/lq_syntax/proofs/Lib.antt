pub mod WholeLaws
pub mod FailLaws
pub mod ReadLaws
