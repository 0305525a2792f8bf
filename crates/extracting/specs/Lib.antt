pub mod Owners
pub mod Extractors
pub mod Walking
pub mod Columns
