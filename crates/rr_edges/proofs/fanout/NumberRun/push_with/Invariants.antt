use Rattle.std.proofs.Common.{◌≡◌, ◌+◌, ◌*◌, ◌≤◌, [], ◌∷◌}
use Rattle.std.specs.List.{flat_map}
use Rattle.channel_tables.specs.Fabric.{numbers_below}
use Rattle.rr_edges.specs.kept.Fanouts.{number_in}
use Rattle.rr_edges.specs.kept.Pushes.{Pushes}
use Rattle.rr_edges.proofs.fanout.NumberRun.push_with.Given as goal

abbrev pub invariant-loop-place : goal.invariant-loop-place
invariant-loop-place l = record {
  pushed : Pushes l.initial.list (flat_map (λ k. number_in k l.fn.self ∷ number_in k l.fn.other ∷ []) (numbers_below l._place)) l.list;
  one : l.one ≡ number_in l._place l.fn.self;
  two : l.two ≡ number_in l._place l.fn.other;
  small_one : l.one ≤ l.fn.self.first + l._place * 32768;
  small_two : l.two ≤ l.fn.other.first + l._place * 32768;
}
