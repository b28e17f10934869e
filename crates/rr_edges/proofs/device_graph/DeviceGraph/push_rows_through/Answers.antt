use Rattle.std.proofs.Common.{◌≡◌, ◌+◌, ◌<◌, ℕ, List, All, length, sym, ap, subst, ◌∙◌, arith}
use Rattle.smallvec.specs.SmallVec.{HasRoomFor}
use Rattle.rr_edges.specs.kept.PinSuccessors.{tapped_rows}
use Rattle.rr_edges.specs.kept.Pushes.{Pushes}
use Rattle.rr_edges.specs.kept.Terminals.{rows_piece}
use Rattle.channel_tables.specs.Fabric.{Fabric}
use Rattle.channel_tables.specs.Wires.{tracks_in}
use Rattle.channel_tables.specs.Channels.{tracks_from, tracks_since}
use Rattle.channel_tables.proofs.TrackOrder.{from_small}
use Rattle.rr_edges.proofs.OpinWires.{piece_by_track}
use Rattle.rr_edges.proofs.Pushes.{pushed_further, room_further}
use Rattle.rr_edges.proofs.device_graph.DeviceGraph.push_rows_through.Goals as goal

pub push_tracks_above-requires-clause-room : goal.push_tracks_above-requires-clause-room
unfolding tapped_rows
push_tracks_above-requires-clause-room c =
    let first = 1 + c.loop-before.before in
    let begun = c.split_tracks.ensures.begun ∙ ap (λ (g : Fabric). tracks_from g g.nx c.args.column first) c.tables-in-loop-before.ensures.tables in
    let rows = rows_piece c.args.self.now c.args.tapper.fc c.args.tapper.number c.args.column c.args.row c.args.sides in
    let piece = piece_by_track c.args.self.now c.args.tapper.fc c.args.tapper.number c.args.column c.args.row c.args.sides first _
    (omega arith) (omega (arith, c.loop-before-test.true)) c.requires.column.1 begun in
    subst (λ (ns : List ℕ). HasRoomFor c.loop-before.list (length ns)) piece
    (room_further rows 1 c.loop-before.before c.loop-before.invariant.pushed c.args.column c.requires.room c.loop-before-test.true)

pub push_tracks_above-requires-clause-tracks : goal.push_tracks_above-requires-clause-tracks
push_tracks_above-requires-clause-tracks c =
    let f = c.args.self.now in
    let first = 1 + c.loop-before.before in
    let begun = c.split_tracks.ensures.begun ∙ ap (λ (g : Fabric). tracks_from g g.nx c.args.column first) c.tables-in-loop-before.ensures.tables in
    subst (All (λ t. t < tracks_in f.mode f.width)) (sym begun) (from_small f f.nx c.args.column first)

pub loop-before-preserved : goal.loop-before-preserved
loop-before-preserved c =
    let first = 1 + c.loop-before.before in
    let begun = c.split_tracks.ensures.begun ∙ ap (λ (g : Fabric). tracks_from g g.nx c.args.column first) c.tables-in-loop-before.ensures.tables in
    let rows = rows_piece c.args.self.now c.args.tapper.fc c.args.tapper.number c.args.column c.args.row c.args.sides in
    let piece = piece_by_track c.args.self.now c.args.tapper.fc c.args.tapper.number c.args.column c.args.row c.args.sides first _
    (omega arith) (omega (arith, c.loop-before-test.true)) c.requires.column.1 begun in
    let same = ap (λ (g : Fabric). tracks_since g g.nx c.args.column (first + 1)) c.tables-in-loop-before.ensures.tables in
    let next : first + 1 ≡ 1 + (c.loop-before.before + 1) = omega arith in
    record {
      pushed = pushed_further rows 1 c.loop-before.before c.loop-before.invariant.pushed
          (subst (λ (ns : List ℕ). Pushes c.loop-before.list ns c.push_tracks_above.new.list) (sym piece) c.push_tracks_above.ensures);
      tracks = c.split_tracks.ensures.rest ∙ same ∙ ap (tracks_since c.args.self.now c.args.self.now.nx c.args.column) next;
    }
