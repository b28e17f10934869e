pub mod Views
pub mod Bounds
pub mod Examples
pub mod Shifts
pub mod Packing
pub mod Noting
pub mod FlagsAdded
