use Rattle.std.proofs.Common.{◌≡◌, ◌+◌, ◌*◌, ◌≤◌, ◌++◌}
use Rattle.std.specs.List.{flat_map}
use Rattle.channel_tables.specs.Fabric.{numbers_below}
use Rattle.rr_edges.specs.kept.Fanouts.{pins_at}
use Rattle.rr_edges.specs.kept.Pushes.{Pushes}
use Rattle.rr_edges.proofs.fanout.Taps.push_with.Given as goal

abbrev pub invariant-loop-place : goal.invariant-loop-place
invariant-loop-place l = record {
  pushed : Pushes l.initial.list (flat_map (λ k. pins_at l.self k ++ pins_at l.other k) (numbers_below l._place)) l.list;
  one : l.one ≡ l.self.start + l._place * l.self.step;
  two : l.two ≡ l.other.start + l._place * l.other.step;
  small_one : l.one ≤ l.self.start + l._place * 32768;
  small_two : l.two ≤ l.other.start + l._place * 32768;
}
