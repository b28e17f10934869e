pub mod Faults
pub mod Evenness
pub mod Looks
pub mod Routes
pub mod TurnLogs
pub mod LogRules
pub mod Pages
