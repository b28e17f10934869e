pub mod Split
pub mod Transfers
