pub mod GoingOn
mod Opening
mod Examples
mod MoreExamples
