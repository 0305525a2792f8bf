pub mod Stored
pub mod Making
pub mod Placing
pub mod Listing
pub mod Keys
