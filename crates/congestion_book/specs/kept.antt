pub mod Closing
pub mod Fields
pub mod Usage
pub mod Views
pub mod HistoryTables
pub mod Counts
pub mod TurnTables
