-- lists
pub mod Lists
pub mod Wanted
pub mod Counted
-- how many wires a way still enters at least
pub mod WiresOver
mod Examples
pub mod WireSteps
pub mod PinSteps
pub mod WaysLeft
-- what every search finds
pub mod Spaces
pub mod Insides
-- ways and trees
pub mod WayNodes
pub mod Added
pub mod Grown
pub mod Orderly
pub mod RowNodes
