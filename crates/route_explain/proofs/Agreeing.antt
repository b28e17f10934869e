-- The first line of a net is about the fault that the verdict names.
use Rattle.std.proofs.Common.{◌≡◌, List, length, Option, Some}
use Rattle.rr_graph.specs.Problems.{RoutingProblem}
use Rattle.route_tree.specs.Usage.{Lists}
use Rattle.route_check.specs.declared.fault.RouteFault.{RouteFault}
use Rattle.route_check.specs.Nets.{AreJudged}
use Rattle.route_check.proofs.Answering.{first_fault}
use Rattle.runs.specs.Verdict.{IsVerdict}
use Rattle.route_explain.specs.Explanation.{IsFirstLine}

pub agrees : (p : RoutingProblem) (lists : Lists) (faults : List (Option RouteFault)) (verdict : Option RouteFault)
    → length lists ≡ length p.nets → AreJudged p lists faults → IsVerdict p lists verdict
    → (fault : RouteFault) → IsFirstLine faults fault → verdict ≡ Some fault
agrees p lists faults verdict one_each judged is fault first =
    (is.first fault).1 (first_fault p lists one_each faults judged fault
    (record { place = first.net; within = first.within; there = first.there; before = first.none_before }))
