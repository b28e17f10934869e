use Rattle.std.proofs.Common.{◌≡◌, length}
use Rattle.group_wave.proofs.LabelRows.{AreNotedFrom, Fits}
use Rattle.group_wave.proofs.labels.take_off.Given as goal

abbrev pub invariant-loop-node : goal.invariant-loop-node
invariant-loop-node g l = record {
  count : length l.rows.items ≡ length l.fn.rows.items;
  fits : Fits g.K.Key.value g.K.Key.greatest l.rows.items;
  noted : AreNotedFrom g.K.Key.value g.K.Key.greatest l.rows.items l.nodes l.node-index;
}
