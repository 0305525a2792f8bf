pub mod Same
pub mod Qualifiers
pub mod Listing
pub mod Referred
pub mod Renamed
pub mod Recovered
pub mod Rebuilt
