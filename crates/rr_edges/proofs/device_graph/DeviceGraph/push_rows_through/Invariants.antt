use Rattle.std.proofs.Common.{◌≡◌, ◌+◌}
use Rattle.std.specs.List.{range_with_len, flat_map}
use Rattle.rr_edges.specs.kept.Pushes.{Pushes}
use Rattle.channel_tables.specs.Channels.{tracks_since}
use Rattle.rr_edges.specs.kept.Terminals.{rows_piece}
use Rattle.rr_edges.proofs.device_graph.DeviceGraph.push_rows_through.Given as goal

abbrev pub invariant-loop-before : goal.invariant-loop-before
invariant-loop-before l = record {
  pushed : Pushes l.initial.list (flat_map (rows_piece l.self l.fn.tapper.fc l.fn.tapper.number l.column l.row l.fn.sides) (range_with_len 1 l.before)) l.list;
  tracks : l.tracks ≡ tracks_since l.self l.self.nx l.column (1 + l.before);
}
