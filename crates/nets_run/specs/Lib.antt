pub mod Nets
pub mod NetsRun
