use Rattle.std.proofs.Common.{◌≡◌, ◌≤◌, vec_len}
use Rattle.channel_tables.specs.Fabric.{numbers_below}
use Rattle.channel_tables.proofs.layout.Layout.pads.Given as goal

abbrev pub invariant-loop-pad : goal.invariant-loop-pad
invariant-loop-pad l = record {
  pads : l.pads.items ≡ numbers_below l.pad;
  few : vec_len l.pads ≤ l.pad;
}
