pub mod Quotes
pub mod HeadLaws
