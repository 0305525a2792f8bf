pub mod Acceptance
pub mod Build
pub mod Views
pub mod Begun
