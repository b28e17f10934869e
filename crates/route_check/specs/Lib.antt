pub mod Routed
pub mod Faults
pub mod Nets
pub mod kept
