pub mod Onto
pub mod Freshly
