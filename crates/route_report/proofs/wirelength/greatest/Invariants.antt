use Rattle.std.proofs.Common.{◌≡◌, max, drop}
use Rattle.route_report.specs.Wirelength.{greatest_in}
use Rattle.route_report.proofs.wirelength.greatest.Given as goal

abbrev pub invariant-loop-number : goal.invariant-loop-number
invariant-loop-number l = max l.most (greatest_in (drop l.number-index l.numbers)) ≡ greatest_in l.numbers
