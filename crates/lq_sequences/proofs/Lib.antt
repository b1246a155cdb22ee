pub mod StraightLaws
pub mod FirstAnswers
