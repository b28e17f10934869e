use Rattle.std.proofs.Common.{◌≡◌, length}
use Rattle.group_wave.proofs.LabelRows.{AreBlank, Fits}
use Rattle.group_wave.proofs.labels.blank_rows.Given as goal

abbrev pub invariant-loop : goal.invariant-loop
invariant-loop g l = record {
  count : length l.rows.items ≡ l.counter;
  blank : AreBlank g.K.Key.value g.K.Key.greatest l.rows.items;
  fits : Fits g.K.Key.value g.K.Key.greatest l.rows.items;
}
