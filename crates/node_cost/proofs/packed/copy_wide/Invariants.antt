use Rattle.std.proofs.Common.{◌*◌}
use Rattle.node_cost.specs.kept.Packed.{AgreesBelow}
use Rattle.node_cost.proofs.packed.copy_wide.Given as goal

abbrev pub invariant-loop-block : goal.invariant-loop-block
invariant-loop-block l = AgreesBelow (1024 * l.block) l.marks l.from l.wide
