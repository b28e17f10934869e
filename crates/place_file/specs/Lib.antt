pub mod Faults
pub mod Placement
pub mod Lines
pub mod Sites
pub mod Judge
pub mod Reading
pub mod Reads
pub mod kept
