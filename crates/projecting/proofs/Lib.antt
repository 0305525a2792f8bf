pub mod Listing
pub mod Numbers
pub mod Keeping
pub mod Pairing
pub mod Freshening
