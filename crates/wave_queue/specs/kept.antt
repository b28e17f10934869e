pub mod Buckets
pub mod Queues
pub mod Bits
pub mod Marks
