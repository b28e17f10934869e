pub mod SightRows
pub mod LooksAtOnce
pub mod SideBySide
pub mod Around
pub mod Narrower
pub mod Opened
pub mod PinsInside
