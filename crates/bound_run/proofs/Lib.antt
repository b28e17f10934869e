pub mod Filled
pub mod Found
pub mod Examples
