mod LabelRows
pub mod Kept
pub mod Fitting
pub mod Waited
mod Costs
-- steps of the wave
pub mod Lower
pub mod Pushed
pub mod PricedNodes
pub mod Popped
pub mod Nearests
pub mod Noted
pub mod Sinks
pub mod Grouped
pub mod Relaxed
pub mod RelaxedTracks
pub mod Entered
pub mod Tapped
mod Offered
mod Left
mod Beside
pub mod Expanded
pub mod GoneOn
pub mod Taken
-- from way to way
pub mod Traced
pub mod Starts
pub mod Aimed
pub mod Starting
pub mod Outputs
pub mod StartWays
pub mod Shortcut
pub mod Counted
pub mod Added
pub mod Whole
pub mod FirstWays
