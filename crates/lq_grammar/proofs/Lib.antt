pub mod Computing
mod Rows
pub mod CellLaws
pub mod Turns
pub mod SpanLaws
pub mod Agreement
pub mod Staying
