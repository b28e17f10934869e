use Rattle.std.proofs.Common.{take}
use Rattle.std.specs.List.{flat_map}
use Rattle.rr_edges.specs.kept.Pushes.{Pushes}
use Rattle.rr_edges.specs.kept.Terminals.{tapped_wire}
use Rattle.rr_edges.proofs.device_graph.DeviceGraph.push_tracks.Given as goal

abbrev pub invariant-loop-track : goal.invariant-loop-track
invariant-loop-track l =
    Pushes l.initial.list (flat_map (tapped_wire l.axis l.self l.fn.tapper.fc l.fn.tapper.number l.place l.channel) (take l.track-index l.tracks)) l.list
