pub mod Frames
pub mod Begun
