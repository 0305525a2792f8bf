pub mod Placing
pub mod Sides
