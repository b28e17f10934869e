use Rattle.std.proofs.Common.{◌≡◌, ◌+◌, ◌≤◌, ◌++◌, take, vec_len}
use Rattle.channel_tables.specs.Picks.{picks}
use Rattle.channel_tables.specs.kept.TappingTables.{taps_from}
use Rattle.channel_tables.proofs.layout.Layout.push_tapping.Given as goal

abbrev pub invariant-loop-place : goal.invariant-loop-place
invariant-loop-place l = record {
  picked : l.places.items ≡ l.initial.places.items ++ picks (taps_from l.side l.self l.track) 0 (take l.place l.pins);
  few : vec_len l.places ≤ vec_len l.initial.places + l.place;
}
