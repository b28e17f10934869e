use Rattle.std.proofs.Common.{◌≡◌, true, sym, subst, ◌∙◌, arith}
use Rattle.iteration.specs.Progress.{IsReached, begun, followed, goes_on}
use Rattle.iteration.proofs.Advancing.{few_rows, rows_after}
use Rattle.iteration.proofs.negotiation.run.Goals as goal

pub loop-alloc-init : goal.loop-alloc-init
loop-alloc-init g c = subst (IsReached c.args.problem c.args.settings.now c.args.workers (g.G.Gate.accepted c.args.gate.now)) (sym c.in_ok-negotiation.ensures) begun

pub advance-requires-clause-few : goal.advance-requires-clause-few
advance-requires-clause-few g c κs within =
    let old = c.loop-alloc.negotiation in
    let on : goes_on c.args.settings.now old ≡ true = sym c.goes_on.ensures.goes_on ∙ c.loop-alloc-test.true in
    let few = few_rows c.args.problem c.args.settings.now c.args.workers (g.G.Gate.accepted c.args.gate.now) old c.goes_on.ensures.limits.iterations_least on in
    omega (arith, few, c.goes_on.ensures.limits.iterations)

pub loop-alloc-smaller : goal.loop-alloc-smaller
loop-alloc-smaller g c =
    let old = c.loop-alloc.negotiation in
    let new = c.in_ok-negotiation-2.negotiation in
    let on : goes_on c.args.settings.now old ≡ true = sym c.goes_on.ensures.goes_on ∙ c.loop-alloc-test.true in
    let few = few_rows c.args.problem c.args.settings.now c.args.workers (g.G.Gate.accepted c.args.gate.now) old c.goes_on.ensures.limits.iterations_least on in
    let follows = c.in_ok-negotiation-2.ensures.made in
    let more = rows_after c.args.settings.now c.args.workers (g.G.Gate.accepted c.args.gate.now) old new follows in
    omega (arith, few, more)

pub loop-alloc-preserved : goal.loop-alloc-preserved
loop-alloc-preserved g c =
    let old = c.loop-alloc.negotiation in
    let on : goes_on c.args.settings.now old ≡ true = sym c.goes_on.ensures.goes_on ∙ c.loop-alloc-test.true in
    followed old c.in_ok-negotiation-2.negotiation c.loop-alloc.invariant on c.in_ok-negotiation-2.ensures.made

pub returns-clause-ended : goal.returns-clause-ended
returns-clause-ended g c = sym c.goes_on.ensures.goes_on ∙ c.loop-alloc-test.false
