use Rattle.std.proofs.Common.{◌-◌, length, sym, arith}
use Rattle.std.proofs.lemmas.Bool.{eq-eqb}
use Rattle.routing_problem.proofs.Ranges.{none_below, some_below}
use Rattle.route_check.specs.kept.Ends.{is_repeated_at}
use Rattle.route_check.proofs.listing.is_repeated.Goals as goal

pub returns-then-ends-index : goal.returns-then-ends-index
returns-then-ends-index c =
    let ends = c.args.ends.now in
    sym (some_below (is_repeated_at ends) (length ends - 1) c.loop-index.index
    (omega (arith, c.loop-index-test.true, c.saturating_sub-index-end.ensures)) (eq-eqb _ _ c.if-ends-index.true))

pub returns : goal.returns
returns c =
    let ends = c.args.ends.now in
    sym (none_below (is_repeated_at ends) (length ends - 1) (λ k l. c.loop-index.invariant k
    (omega (arith, l, c.loop-index-test.false, c.saturating_sub-index-end.ensures))))
