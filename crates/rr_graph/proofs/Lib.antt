pub mod Designs
pub mod DesignsRead
pub mod DevicesMade
pub mod DesignExamples
pub use Rattle.channel_tables.proofs.Ranges
pub use Rattle.channel_tables.proofs.WireTables
pub use Rattle.node_numbers.proofs.Order
pub use Rattle.rr_edges.proofs.EdgeEnds
