pub mod Bounds
pub mod CutTexts
pub mod BoundRun
