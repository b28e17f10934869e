pub mod Marks
pub mod Terminals
pub mod Fields
