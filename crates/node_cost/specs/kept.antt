pub mod Fields
pub mod Packed
pub mod Words
pub mod Noted
