pub mod Declarations
pub mod Lexicon
pub mod Declaring
pub mod Begun
