pub mod PieceLaws
pub mod LookedLaws
