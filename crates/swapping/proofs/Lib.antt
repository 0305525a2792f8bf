pub mod Remade
pub mod Swaps
