use Rattle.std.specs.Prelude.{◌≡◌, ◌+◌, ◌≤◌, vec_len, vec_capacity}
use Rattle.std.specs.Vec.Iter.{into_iter_len}
use Rattle.net_workers.proofs.staff.hire_all.Given as goal

abbrev pub invariant-loop-share : goal.invariant-loop-share
invariant-loop-share g l = record {
  room : vec_len l.all + into_iter_len l.share-iterator ≤ vec_capacity l.all;
  every : vec_len l.all + into_iter_len l.share-iterator ≡ vec_len l.fn.shares;
}
