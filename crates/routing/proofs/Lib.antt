mod Columns
mod Equals
mod Marking
mod Nulls
mod Placing
pub mod Finding
