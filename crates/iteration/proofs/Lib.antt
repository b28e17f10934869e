pub mod Routings
pub mod Successes
pub mod Advancing
