pub mod Given
pub mod kept
