pub mod Grounds
pub mod Boxes
pub mod EightBoxes
pub mod Nearest
pub mod Fields
pub mod Tables
