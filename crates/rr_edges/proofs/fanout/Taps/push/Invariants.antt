use Rattle.std.proofs.Common.{◌≡◌, ◌+◌, ◌*◌, ◌≤◌}
use Rattle.std.specs.List.{flat_map}
use Rattle.channel_tables.specs.Fabric.{numbers_below}
use Rattle.rr_edges.specs.kept.Fanouts.{pins_at}
use Rattle.rr_edges.specs.kept.Pushes.{Pushes}
use Rattle.rr_edges.proofs.fanout.Taps.push.Given as goal

abbrev pub invariant-loop-place : goal.invariant-loop-place
invariant-loop-place l = record {
  pushed : Pushes l.initial.list (flat_map (pins_at l.self) (numbers_below l._place)) l.list;
  start : l.start ≡ l.self.start + l._place * l.self.step;
  small : l.start ≤ l.self.start + l._place * 32768;
}
