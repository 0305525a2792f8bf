pub mod Evaluating
pub mod Fitness
