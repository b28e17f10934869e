pub mod Boxes
pub mod Space
pub mod Ways
pub mod Growth
pub mod kept
