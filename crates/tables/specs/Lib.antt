pub mod Holding
pub mod Reading
pub mod Making
pub mod Answering
pub mod Reusing
pub mod Drafting
pub mod Origins
pub mod Begun
