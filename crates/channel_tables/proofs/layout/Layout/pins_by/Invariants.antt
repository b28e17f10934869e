use Rattle.std.proofs.Common.{◌≡◌, ◌≤◌, vec_len}
use Rattle.std.specs.Prelude.{slice_get}
use Rattle.std.specs.List.{filter}
use Rattle.std.specs.Option.{option_map}
use Rattle.channel_tables.specs.Fabric.{numbers_below}
use Rattle.channel_tables.specs.Pins.{has_direction}
use Rattle.channel_tables.proofs.layout.Layout.pins_by.Given as goal

abbrev pub invariant-loop-number : goal.invariant-loop-number
invariant-loop-number l = record {
  pins : l.pins.items ≡ filter (λ p. has_direction l.direction (option_map (λ q. q.direction) (slice_get l.self.architecture.pins p))) (numbers_below l.number);
  few : vec_len l.pins ≤ l.number;
}
