use Rattle.std.proofs.Common.{◌≡◌, map}
use Rattle.net_file.specs.Blocks.{numbers_below}
use Rattle.net_file.specs.Reading.{net_at}
use Rattle.net_file.proofs.net.nets_of.Given as goal

-- the nets up to n
abbrev pub invariant-loop-n : goal.invariant-loop-n
invariant-loop-n l = l.list.items ≡ map (net_at l.nets l.globals l.rows) (numbers_below l.n)
