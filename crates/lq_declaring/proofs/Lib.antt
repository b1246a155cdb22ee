pub mod RowLaws
pub mod BinderLaws
pub mod WayLaws
pub mod UnsolvedLaws
pub mod ConstantLaws
pub mod ClosingLaws
pub mod FamilyLaws
