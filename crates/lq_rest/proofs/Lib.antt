pub mod InsideLaws
pub mod LookLaws
