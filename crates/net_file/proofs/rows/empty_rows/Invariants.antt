use Rattle.std.proofs.Common.{◌≡◌, ℕ, [], length, slice_index_or}
use Rattle.net_file.proofs.rows.empty_rows.Given as goal

-- as many rows as were counted, all empty
abbrev pub invariant-loop : goal.invariant-loop
invariant-loop l = (length l.rows.items ≡ l.counter) × ((n : ℕ) → slice_index_or l.rows.items n [] ≡ [])
