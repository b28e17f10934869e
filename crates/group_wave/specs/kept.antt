pub mod WaveState
pub mod Wave
pub mod Labels
pub mod Steps
pub mod Starts
pub mod Growing
pub mod WaveFields
