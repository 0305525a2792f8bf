mod Needs
pub mod Accepted
pub mod Spaces
pub mod Rewritten
pub mod Growing
mod Entered
pub mod Built
pub mod Steps
pub mod Arguments
pub mod Cases
mod Turns
mod Columned
mod Columning
mod Lists
pub mod Numbers
mod Moving
pub mod Keys
