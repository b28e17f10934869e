pub mod Progress
pub mod Outcomes
