pub mod Places
pub mod Flagging
pub mod Marking
pub mod Filled
pub mod Loops
pub mod Reading
pub mod Parts
pub mod Members
