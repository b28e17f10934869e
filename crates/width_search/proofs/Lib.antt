pub mod Sequences
pub mod Searching
pub mod Climbing
pub mod Verifying
