use Rattle.std.proofs.Common.{◌≡◌, ◌≤◌, length, take}
use Rattle.std.specs.Prelude.{slice_get}
use Rattle.channel_tables.specs.Pins.{has_class}
use Rattle.channel_tables.specs.Picks.{picks}
use Rattle.rr_edges.proofs.terminals.count_class.Given as goal

abbrev pub invariant-loop-place : goal.invariant-loop-place
invariant-loop-place l = (l.count ≡ length (picks (λ p. has_class (slice_get l.layout.architecture.pins p) l.class) 0 (take l._place l.pins))) × (l.count ≤ l._place)
