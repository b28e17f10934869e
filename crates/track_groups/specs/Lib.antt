pub mod Groups
pub mod Joints
pub mod Drives
pub mod kept
