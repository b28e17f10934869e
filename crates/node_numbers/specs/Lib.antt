pub mod Nodes
pub mod Starts
pub mod Numbering
pub mod kept
