use Rattle.std.specs.Prelude.{◌+◌, ◌≤◌, vec_len, vec_capacity}
use Rattle.std.specs.Vec.Iter.{into_iter_len}
use Rattle.net_workers.proofs.threads.fn.run_in_threads.scope.Given as goal

abbrev pub invariant-loop-worker : goal.invariant-loop-worker
invariant-loop-worker g l = (vec_len l.handles + into_iter_len l.worker-iterator ≤ vec_capacity l.handles) × (vec_len l.handles + into_iter_len l.worker-iterator + 1 ≤ vec_capacity l.results)

abbrev pub invariant-loop-handle : goal.invariant-loop-handle
invariant-loop-handle g l = vec_len l.results + into_iter_len l.handle-iterator + 1 ≤ vec_capacity l.results
