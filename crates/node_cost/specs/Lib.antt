pub mod Costs
pub mod Options
pub mod Views
pub mod kept
