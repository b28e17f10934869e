pub mod Placing
pub mod Steps
pub mod Placed
pub mod OneRowEach
pub mod Related
pub mod Examples
