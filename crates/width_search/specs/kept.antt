pub mod Trials
pub mod Verifying
