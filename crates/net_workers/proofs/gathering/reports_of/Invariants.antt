use Rattle.std.specs.Prelude.{◌≡◌, ℕ, ◌<◌, [], vec_len, get_or}
use Rattle.net_workers.specs.kept.TurnLogs.{entries_of}
use Rattle.net_workers.proofs.gathering.reports_of.Given as goal

abbrev pub invariant-loop-turn : goal.invariant-loop-turn
invariant-loop-turn l = record {
  count : vec_len l.all ≡ l.workers;
  each : (w : ℕ) → w < l.workers → get_or l.all.items w [] ≡ entries_of w l.yielded;
}
