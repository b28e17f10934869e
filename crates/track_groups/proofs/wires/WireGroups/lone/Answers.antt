use Rattle.std.proofs.Common.{◌-◌, List, length, ap, sym, subst, arith}
use Rattle.std.specs.Prelude.{All}
use Rattle.routing_problem.proofs.Ranges.{length_below}
use Rattle.track_groups.specs.declared.group.Group.{Group}
use Rattle.track_groups.specs.kept.Fields.{IsSmall}
use Rattle.track_groups.specs.kept.Lone.{lone_at}
use Rattle.track_groups.proofs.SingleWires.{lone_small}
use Rattle.track_groups.proofs.wires.WireGroups.lone.Goals as goal

pub invariant_of-result : goal.invariant_of-result
invariant_of-result c =
    let first = c.first_wire-first_wire.result in
    let n = c.node_count.result - first in
    let made = c.in_ok-groups.ensures in
    let P : List Group → Type 0 = All IsSmall in
    record {
      few = omega (arith, ap (λ (gs : List Group). length gs) made, length_below (lone_at c.args.device.now first) n);
      groups = subst P (sym made) (lone_small c.args.device.now first n (omega arith));
    }
