use Rattle.std.proofs.Common.{◌-◌, length, sym, arith}
use Rattle.routing_problem.proofs.Ranges.{none_below, some_below}
use Rattle.route_tree.specs.Rows.{pairs_of}
use Rattle.route_tree.specs.kept.Ladder.{breaks_at}
use Rattle.route_tree.proofs.passes.breaks_off.Goals as goal

pub returns-then-breaks_at : goal.returns-then-breaks_at
returns-then-breaks_at c =
    let pairs = pairs_of c.args.rows.now in
    sym (some_below (breaks_at c.args.device.now pairs) (length pairs - 1) c.loop-index.index
    (omega (arith, c.loop-index-test.true, c.saturating_sub-index-end.ensures, c.count_pairs.ensures.count)) (sym c.if-breaks_at.ensures))

pub returns : goal.returns
returns c =
    let pairs = pairs_of c.args.rows.now in
    sym (none_below (breaks_at c.args.device.now pairs) (length pairs - 1) (λ k l. c.loop-index.invariant k
    (omega (arith, l, c.loop-index-test.false, c.saturating_sub-index-end.ensures, c.count_pairs.ensures.count))))
