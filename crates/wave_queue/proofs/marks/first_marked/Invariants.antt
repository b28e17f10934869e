use Rattle.std.proofs.Common.{◌≡◌, ℕ, ◌<◌, ◌≤◌, ◌-◌}
use Rattle.wave_queue.specs.kept.Marks.{mark_at}
use Rattle.wave_queue.proofs.marks.first_marked.Given as goal

-- none so far is marked
abbrev pub invariant-loop-at : goal.invariant-loop-at
invariant-loop-at l = (l.low ≤ l.at) × ((i : ℕ) → l.low ≤ i → i < l.at → mark_at l.words i ≡ 0)

abbrev pub decreases-loop-at : goal.decreases-loop-at
decreases-loop-at l = l.end - l.at
