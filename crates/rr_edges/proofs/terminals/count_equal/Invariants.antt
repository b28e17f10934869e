use Rattle.std.proofs.Common.{◌≡◌, ◌≤◌, length, take}
use Rattle.std.specs.Prelude.{◌==◌}
use Rattle.channel_tables.specs.Picks.{picks}
use Rattle.rr_edges.proofs.terminals.count_equal.Given as goal

abbrev pub invariant-loop-place : goal.invariant-loop-place
invariant-loop-place l = (l.count ≡ length (picks (λ c. c == l.class) 0 (take l._place l.classes))) × (l.count ≤ l._place)
