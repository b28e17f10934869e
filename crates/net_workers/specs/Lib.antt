pub mod WorkerParts
pub mod Searches
pub mod Looks
pub mod Agreement
pub mod Schedules
pub mod kept
