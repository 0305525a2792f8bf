pub mod PlanFrames
pub mod PlanFacts
pub mod Placings
