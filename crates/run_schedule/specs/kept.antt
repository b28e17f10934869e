pub mod Fields
pub mod Growing
pub mod Made
pub mod Reading
pub mod Recorded
pub mod RunFields
pub mod Taking
