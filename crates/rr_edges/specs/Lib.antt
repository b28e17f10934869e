pub mod Edges
pub mod FoundNodes
pub mod InputPins
pub mod kept
