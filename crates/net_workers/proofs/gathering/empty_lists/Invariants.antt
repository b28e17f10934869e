use Rattle.std.specs.Prelude.{◌≡◌, ℕ, [], vec_len, get_or}
use Rattle.net_workers.proofs.gathering.empty_lists.Given as goal

abbrev pub invariant-loop : goal.invariant-loop
invariant-loop l = record {
  count : vec_len l.all ≡ l.counter;
  none : (w : ℕ) → get_or l.all.items w [] ≡ [];
}
