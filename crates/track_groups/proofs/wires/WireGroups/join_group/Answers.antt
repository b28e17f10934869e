use Rattle.std.proofs.Common.{◌≡◌, ℕ, List, [], sym, ap, ◌∙◌, subst, arith}
use Rattle.track_groups.specs.declared.group.Group.{Group}
use Rattle.track_groups.specs.declared.group.Tap.{Tap}
use Rattle.track_groups.specs.kept.Joining.{AreJoinedBefore}
use Rattle.track_groups.proofs.Joined.{joined_none, joined_all}
use Rattle.track_groups.proofs.wires.WireGroups.join_group.Goals as goal

pub loop-track-init : goal.loop-track-init
loop-track-init c =
    let f = c.args.device.now in
    let t = c.args.self.now in
    let g = c.args.group in
    let P = λ (hs : List ℕ). AreJoinedBefore f t g 0 hs [] in
    let Q = λ (ts : List Tap). AreJoinedBefore f t g 0 c.clear.new.self.items ts in
    subst Q (sym c.clear-2.ensures.items) (subst P (sym c.clear.ensures.items) (joined_none f t g))

pub returns-clause-joined : goal.returns-clause-joined
returns-clause-joined c = λ _.
    let e : c.loop-track.track ≡ c.group-tracks.result.tracks = omega arith in
    joined_all c.args.device.now c.args.self.now c.args.group c.loop-track.track _ _ c.requires.grouped (e ∙ ap (λ (g : Group). g.tracks) c.group-tracks.ensures.wires) c.loop-track.invariant
