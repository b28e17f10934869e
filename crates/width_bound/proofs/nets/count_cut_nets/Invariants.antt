use Rattle.std.proofs.Common.{◌≡◌, ◌≤◌, take}
use Rattle.std.specs.Prelude.{count_by}
use Rattle.width_bound.specs.CutNets.{is_cut_net}
use Rattle.width_bound.proofs.nets.count_cut_nets.Given as goal

-- of the nets so far it is how many are cut
abbrev pub invariant-loop-net : goal.invariant-loop-net
invariant-loop-net l = (l.count ≡ count_by (is_cut_net l.problem.device l.sides) (take l.net l.problem.nets)) × (l.count ≤ l.net)
