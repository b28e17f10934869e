use Rattle.rr_edges.specs.kept.Terminals.{tapped_wire}
use Rattle.rr_edges.proofs.Pushes.{room_each}
use Rattle.rr_edges.proofs.device_graph.DeviceGraph.push_tracks.Goals as goal

pub push_track-requires-clause-room : goal.push_track-requires-clause-room
push_track-requires-clause-room c =
    rw c.from.ensures (room_each (tapped_wire c.args.axis c.args.self.now c.args.tapper.fc c.args.tapper.number c.args.place c.args.channel) c.args.tracks.now c.loop-track.track-index 0
    c.loop-track.invariant c.loop-track-test.true c.requires.room)
