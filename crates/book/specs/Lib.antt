pub mod Declaration
pub mod Opened
