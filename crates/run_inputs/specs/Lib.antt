pub mod Faults
pub mod Runs
pub mod Inputs
pub mod Stages
