pub mod Bounds
pub mod Spaces
