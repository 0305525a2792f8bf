pub mod Comes
pub mod Shapes
pub mod Found
pub mod Keys
pub mod Walks
