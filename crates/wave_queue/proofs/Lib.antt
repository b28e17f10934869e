pub mod KeysInOrder
pub mod Rows
pub mod Marked
pub mod Bucketed
pub mod TrackBits
