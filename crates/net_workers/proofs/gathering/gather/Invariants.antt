use Rattle.std.specs.Prelude.{◌≡◌, take, vec_len}
use Rattle.net_workers.proofs.gathering.gather.Given as goal

abbrev pub invariant-loop-cell : goal.invariant-loop-cell
invariant-loop-cell g l = l.turns.items ≡ take (vec_len l.turns) l.front
