pub mod Arguments
pub mod Strictness
pub mod Arithmetic
pub mod Numbers
pub mod ArithmeticLaw
pub mod Records
pub mod RecordsLaw
