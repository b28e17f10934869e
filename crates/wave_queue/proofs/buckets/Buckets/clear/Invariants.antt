use Rattle.std.proofs.Common.{◌≡◌, ℕ, ◌≤◌, ◌-◌, [], length, slice_index_or}
use Rattle.wave_queue.proofs.Rows.{AreEmpty}
use Rattle.wave_queue.proofs.buckets.Buckets.clear.Given as goal

-- the buckets so far are empty, and so are those that were empty
abbrev pub invariant-loop-at : goal.invariant-loop-at
invariant-loop-at g l = record {
  from : l.low ≤ l.at;
  within : l.end ≤ length l.self;
  empty : AreEmpty l.self l.low l.at;
  kept : (j : ℕ) → slice_index_or l.fn.self j [] ≡ [] → slice_index_or l.self j [] ≡ [];
}

abbrev pub decreases-loop-at : goal.decreases-loop-at
decreases-loop-at g l = l.end - l.at
