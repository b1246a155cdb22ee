pub mod Opening
pub mod Examples
pub mod ListLaws
pub mod KeptLaws
pub mod FrameLaws
pub mod MarkLaws
pub mod SweepLaws
