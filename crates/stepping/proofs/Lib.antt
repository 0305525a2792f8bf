pub mod Made
pub mod Chain
pub mod Rendered
pub mod Fields
pub mod Added
