pub mod Lists
pub mod Lines
pub mod Faultless
pub mod Directions
pub mod Kept
pub mod Related
