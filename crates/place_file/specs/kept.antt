pub mod Fields
pub mod OccupiedSites
