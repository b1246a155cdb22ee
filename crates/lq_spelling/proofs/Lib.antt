pub mod SpellingLaws
pub mod StringLaws
pub mod CutLaws
pub mod WordLaws
