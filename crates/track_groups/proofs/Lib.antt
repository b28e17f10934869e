pub mod OnTracks
mod AllHold
pub mod WiresTold
mod PushedRows
mod SmallWires
mod SingleWires
mod Tests
pub mod MoreDriven
mod AllNodes
mod Tapped
mod Matched
mod Joined
pub mod EdgesTold
