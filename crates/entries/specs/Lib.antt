pub mod Entries
pub mod Spans
