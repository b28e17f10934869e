pub mod ListParts
pub mod Packed
pub mod Fields
pub mod Lone
pub mod Merging
pub mod Joining
