pub mod Channels
pub mod Counting
pub mod Overused
pub mod WireTypes
