use Rattle.std.proofs.Common.{◌≡◌, ◌-◌, ◌+◌, ◌<◌, false, true, length, get_or, set, drop, sym, ap, subst, ◌∙◌, arith}
use Rattle.std.proofs.lemmas.List.{length-set}
use Rattle.route_tree.specs.Rows.{pairs_of}
use Rattle.route_tree.specs.kept.Ladder.{has_dead_end}
use Rattle.route_tree.proofs.Trees.{begins_below}
use Rattle.route_tree.proofs.DeadEnds.{AreAfter, alive, alive_marks}
use Rattle.route_tree.proofs.passes.has_dead_end.Goals as goal

pub mark-requires : goal.mark-requires
mark-requires c =
    let n = c.count_pairs-count.result in
    let i = n - 1 - c.loop-behind.behind in
    let within : i < length (pairs_of c.args.rows.now) = omega (arith, c.loop-behind-test.true, c.count_pairs-count.ensures.count) in
    let below = begins_below c.args.rows.now (length c.args.stamps.now) i c.requires.tree c.requires.below within in
    omega (arith, below, c.loop-behind.invariant.2, ap (λ p. p.0) c.pair_at-pair.ensures)

pub loop-behind-preserved : goal.loop-behind-preserved
loop-behind-preserved c =
    let pairs = pairs_of c.args.rows.now in
    let sinks = c.args.sinks.now in
    let flags = c.loop-behind.stamps in
    let n = c.count_pairs-count.result in
    let i = n - 1 - c.loop-behind.behind in
    let within : i < length pairs = omega (arith, c.loop-behind-test.true, c.count_pairs-count.ensures.count) in
    let next : n - c.loop-behind.behind ≡ i + 1 = omega (arith, c.loop-behind-test.true) in
    let here : n - (c.loop-behind.behind + 1) ≡ i = omega (arith, c.loop-behind-test.true) in
    let pair = c.pair_at-pair.ensures in
    let behind = subst (λ k. AreAfter flags sinks (drop k pairs)) next c.loop-behind.invariant.0 in
    let none = subst (λ k. has_dead_end sinks (drop k pairs) ≡ false) next c.loop-behind.invariant.1 in
    let bound = begins_below c.args.rows.now (length c.args.stamps.now) i c.requires.tree c.requires.below within in
    let below : (get_or pairs i (0, 0)).0 < length flags = omega (arith, bound, c.loop-behind.invariant.2) in
    let marked = ap (λ p. get_or flags p.1 false) (sym pair) ∙ sym c.if-not-is_marked.ensures in (
      subst (λ k. AreAfter c.mark.new.self sinks (drop k pairs)) (sym here)
          (subst (λ s. AreAfter s sinks (drop i pairs)) (sym (c.mark.ensures ∙ ap (λ p. set flags p.0 true) pair)) (alive_marks flags sinks pairs i within behind below)),
      subst (λ k. has_dead_end sinks (drop k pairs) ≡ false) (sym here) (alive flags sinks pairs i within behind none marked),
      ap length c.mark.ensures ∙ length-set flags c.pair_at-pair.result.0 true ∙ c.loop-behind.invariant.2,
    )
