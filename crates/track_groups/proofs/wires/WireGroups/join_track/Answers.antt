use Rattle.std.proofs.Common.{ℕ, List, sym, ap, ◌∙◌, subst}
use Rattle.routing_problem.specs.Edges.{successors_of}
use Rattle.track_groups.specs.kept.Joining.{AddTaps}
use Rattle.track_groups.proofs.Joined.{joined_next}
use Rattle.track_groups.proofs.wires.WireGroups.join_track.Goals as goal

-- the nodes that the device lists are those to which edges lead
pub returns-clause-joined : goal.returns-clause-joined
returns-clause-joined c = λ _.
    let f = c.args.device.now in
    let listed = c.as_slice.ensures ∙ c.in_ok-successors.ensures.listed ∙ ap (successors_of f) c.wire.ensures in
    let same = c.as_slice-2.ensures ∙ sym c.as_slice.ensures in
    let P = λ (ids : List ℕ). AddTaps f ids c.args.place.track c.args.scratch.now.taps.items c.put_taps.new.taps.items in
    joined_next f c.args.self.now c.args.place.group c.args.place.track _ _ _ _ c.as_slice.result.now c.requires.before listed c.in_ok-join_wires.ensures.kept
    (c.in_ok-join_wires.ensures.matched c.if-not-branch.false) (subst P same c.in_ok-put_taps.ensures.added) c.in_ok-put_taps.ensures.taps
