pub mod Fields
pub mod Ladder
pub mod Marked
pub mod Counting
