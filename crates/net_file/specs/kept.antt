pub mod Fields
pub mod NameNumbers
pub mod Rows
pub mod LinesSeen
