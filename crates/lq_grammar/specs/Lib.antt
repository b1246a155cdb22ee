pub mod Cells
pub mod Tokens
pub mod Selectors
pub mod Cutting
pub mod Spans
pub mod Settled
