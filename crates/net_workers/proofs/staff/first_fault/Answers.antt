use Rattle.std.proofs.Common.{◌∙◌, ap, Some}
use Rattle.net_workers.proofs.Faulting.{met_done, met_fault, met_all}
use Rattle.net_workers.proofs.staff.first_fault.Goals as goal
use Rattle.net_workers.proofs.staff.first_fault.Goals.{in-Err, in-Ok}

pub loop-result-preserved : goal.loop-result-preserved
loop-result-preserved c =
    let results = c.args.results.now in
    let i = c.loop-result.result-index in
    let met = c.loop-result.met in
    let next = c.match-result.met in
    let item = c.result-item.result in
    let below = c.loop-result-test.true in
    elim c.match-result.branch [
      | in-Err w ↦ met_fault met next results i item w.in-Err.fault below c.result-item.is w.in-Err.is (w.met-is ∙ ap Some w.first_of.ensures) ∙ c.loop-result.invariant
      | in-Ok w ↦ met_done met next results i item w.in-Ok.field-0 below c.result-item.is w.in-Ok.is w.met-is ∙ c.loop-result.invariant
    ]

pub returns : goal.returns
returns c = met_all c.loop-result.met c.args.results.now c.loop-result.result-index c.loop-result-test.false ∙ c.loop-result.invariant
