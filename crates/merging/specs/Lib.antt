pub mod Replacing
pub mod Joining
pub mod Merging
