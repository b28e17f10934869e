use Rattle.std.proofs.Common.{ℕ, ◌+◌, List, [], ◌∷◌, ◌++◌, length, sym, ap, subst, arith}
use Rattle.std.proofs.lemmas.List.{length_push}
use Rattle.track_groups.specs.declared.group.Tap.{Tap}
use Rattle.track_groups.specs.kept.Joining.{AreTold}
use Rattle.track_groups.proofs.Joined.{told_next}
use Rattle.track_groups.proofs.wires.WireGroups.joints.Goals as goal

-- one more group stands behind the others
pub loop-group-preserved : goal.loop-group-preserved
loop-group-preserved c =
    let f = c.args.device.now in
    let t = c.args.self.now in
    let n = c.loop-group.group in
    let hss = c.loop-group.joints.neighbours in
    let tss = c.loop-group.joints.taps in
    let hs = c.join_group.new.scratch.neighbours.items in
    let ts = c.join_group.new.scratch.taps.items in
    let more = c.in_ok-push.ensures in
    let P : List (List ℕ) → Type 0 = λ xs. AreTold (n + 1) f t xs (tss ++ ts ∷ []) in
    let Q : List (List Tap) → Type 0 = λ xs. AreTold (n + 1) f t c.push.new.self.neighbours xs in
    record {
      told = subst Q (sym more.taps) (subst P (sym more.neighbours)
          (told_next f t n hss tss hs ts c.loop-group.invariant.neighbours c.loop-group.invariant.taps c.loop-group.invariant.told (c.in_ok-join_group.ensures.joined c.if-not-branch.false)));
      neighbours = omega (arith, ap (λ (xs : List (List ℕ)). length xs) more.neighbours, length_push hss hs, c.loop-group.invariant.neighbours);
      taps = omega (arith, ap (λ (xs : List (List Tap)). length xs) more.taps, length_push tss ts, c.loop-group.invariant.taps);
    }
