pub mod ReportLaws
pub mod RunLaws
pub mod SentenceLaws
pub mod FoldLaws
