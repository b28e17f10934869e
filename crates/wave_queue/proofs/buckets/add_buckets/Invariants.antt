use Rattle.std.proofs.Common.{◌≡◌, ℕ, ◌+◌, ◌-◌, ◌≤◌, [], length, max, slice_index_or}
use Rattle.wave_queue.proofs.buckets.add_buckets.Given as goal

-- all buckets are as they were, and those added are empty
abbrev pub invariant-loop-alloc : goal.invariant-loop-alloc
invariant-loop-alloc g l = record {
  few : length l.buckets.items ≤ max (length l.fn.buckets.items) (l.at + 1);
  more : length l.fn.buckets.items ≤ length l.buckets.items;
  same : (i : ℕ) → slice_index_or l.buckets.items i [] ≡ slice_index_or l.fn.buckets.items i [];
}

abbrev pub decreases-loop-alloc : goal.decreases-loop-alloc
decreases-loop-alloc g l = l.at + 1 - length l.buckets.items
