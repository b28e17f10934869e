pub mod Ending
pub mod Stages
pub mod Designs
pub mod AfterDesigns
pub mod Lines
