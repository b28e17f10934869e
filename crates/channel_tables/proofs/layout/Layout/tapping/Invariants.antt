use Rattle.std.proofs.Common.{◌≡◌, ℕ, List, ◌*◌, ◌≤◌, length, map, vec_len}
use Rattle.std.specs.List.{flat_map}
use Rattle.channel_tables.specs.Fabric.{numbers_below}
use Rattle.channel_tables.specs.Picks.{picks}
use Rattle.channel_tables.specs.kept.TappingTables.{taps_from}
use Rattle.channel_tables.proofs.layout.Layout.tapping.Given as goal

abbrev pub invariant-loop-track : goal.invariant-loop-track
invariant-loop-track l =
    let g : ℕ → List ℕ = λ t. picks (taps_from l.side l.self t) 0 l.pins in record {
      starts : l.starts.items ≡ map (λ k. length (flat_map g (numbers_below k))) (numbers_below l.track);
      places : l.places.items ≡ flat_map g (numbers_below l.track);
      few : vec_len l.places ≤ 64 * l.track;
    }
