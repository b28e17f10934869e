use Rattle.std.proofs.Common.{◌≡◌, ◌*◌, ◌^◌, ◌≤◌, take}
use Rattle.std.specs.Prelude.{sum}
use Rattle.route_report.proofs.wirelength.total.Given as goal

abbrev pub invariant-loop-length : goal.invariant-loop-length
invariant-loop-length l = (l.total ≡ sum (take l.length-index l.lengths)) × (l.total ≤ 2 ^ 40 * l.length-index)
