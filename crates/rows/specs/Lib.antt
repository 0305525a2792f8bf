pub mod Lists
pub mod Worlds
pub mod Rows
pub mod Standing
pub mod Theorems
pub mod Examples
