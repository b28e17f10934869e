pub mod Widths
pub mod Reports
pub mod kept
