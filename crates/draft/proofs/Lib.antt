pub mod Words
pub mod Fields
pub mod Growing
pub mod Keeping
