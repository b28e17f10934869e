use Rattle.std.specs.Prelude.{◌≡◌, drop, None}
use Rattle.net_workers.specs.kept.Faults.{first_met}
use Rattle.net_workers.proofs.staff.first_fault.Given as goal

abbrev pub invariant-loop-result : goal.invariant-loop-result
invariant-loop-result l = first_met l.met (drop l.result-index l.results) ≡ first_met None l.results
