pub mod Draftings
pub mod NodeFacts
pub mod Small
pub mod Fitting
pub mod Questions
