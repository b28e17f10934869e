use Rattle.std.specs.Prelude.{◌+◌, ◌≤◌, vec_len, vec_capacity}
use Rattle.std.specs.Vec.Iter.{into_iter_len}
use Rattle.net_workers.proofs.staff.dismiss_all.Given as goal

abbrev pub invariant-loop-result : goal.invariant-loop-result
invariant-loop-result l = vec_len l.tools + into_iter_len l.result-iterator ≤ vec_capacity l.tools
