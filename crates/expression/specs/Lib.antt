pub mod Building
pub mod Reusing
