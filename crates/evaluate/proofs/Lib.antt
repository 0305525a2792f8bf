pub mod Found
pub mod Valued
pub mod Totals
pub mod Decisions
pub mod Suiting
