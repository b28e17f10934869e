use Rattle.std.specs.Prelude.{◌≡◌, ◌+◌, ◌≤◌, ◌++◌, drop, map, length, vec_len, vec_capacity}
use Rattle.net_workers.specs.kept.TurnLogs.{turn_in_schedule}
use Rattle.net_workers.proofs.gathering.schedule_of.Given as goal

abbrev pub invariant-loop-turn : goal.invariant-loop-turn
invariant-loop-turn l = record {
  every : l.all.items ++ map turn_in_schedule (drop l.turn-index l.turns) ≡ map turn_in_schedule l.turns;
  room : vec_len l.all + length (drop l.turn-index l.turns) ≤ vec_capacity l.all;
}
