mod Digits
pub mod Highest
pub mod Places
mod Capped
pub mod Bounded
pub mod Kept
