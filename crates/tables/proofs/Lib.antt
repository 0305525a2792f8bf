pub mod Held
pub mod Inputs
pub mod Answers
pub mod Reusing
pub mod Adding
pub mod Origins
pub mod Begun
pub mod Lent
