pub mod RowLaws
pub mod Productions
