pub mod Routing
pub mod Left
pub mod Trials
pub mod Told
pub mod Lesser
pub mod Negotiated
