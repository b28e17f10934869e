pub mod Cuts
pub mod CutNets
pub mod kept
