use Rattle.std.proofs.Common.{◌≡◌, map}
use Rattle.channel_tables.specs.Fabric.{numbers_below}
use Rattle.node_numbers.specs.kept.Strides.{stride_at}
use Rattle.node_numbers.proofs.strides.place_strides.Given as goal

abbrev pub invariant-loop-place : goal.invariant-loop-place
invariant-loop-place l = l.strides.items ≡ map (stride_at l.tables) (numbers_below l.place)
