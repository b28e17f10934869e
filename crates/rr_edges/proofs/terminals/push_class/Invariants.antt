use Rattle.std.proofs.Common.{take}
use Rattle.std.specs.Prelude.{slice_get}
use Rattle.channel_tables.specs.Pins.{has_class}
use Rattle.channel_tables.specs.Picks.{picks}
use Rattle.rr_edges.specs.kept.Pushes.{Pushes}
use Rattle.rr_edges.proofs.terminals.push_class.Given as goal

abbrev pub invariant-loop-place : goal.invariant-loop-place
invariant-loop-place l = Pushes l.initial.list (picks (λ p. has_class (slice_get l.layout.architecture.pins p) l.class) l.start (take l.place l.pins)) l.list
