mod FrontLaws
mod WordLaws
mod CommentLaws
mod StringLaws
mod FoundLaws
mod SelectorLaws
mod CuttingLaws
