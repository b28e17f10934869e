use Rattle.std.proofs.Common.{◌≡◌, ◌*◌, ◌≤◌, if◌then◌else◌}
use Rattle.std.specs.Prelude.{count_by}
use Rattle.std.specs.List.{sum_by}
use Rattle.routing_problem.specs.Fabric.{numbers_below}
use Rattle.route_report.specs.Wirelength.{places_at}
use Rattle.route_report.specs.WireTypes.{has_type, has_type_used}
use Rattle.route_report.proofs.wire_types.wire_type.Given as goal

abbrev pub invariant-loop-node : goal.invariant-loop-node
invariant-loop-node l = record {
  wires : l.wires ≡ count_by (has_type l.device l.kind) (numbers_below l.node);
  few_wires : l.wires ≤ l.node;
  places : l.places ≡ sum_by (λ a. if has_type l.device l.kind a then places_at l.device a else 0) (numbers_below l.node);
  few_places : l.places ≤ 128 * l.node;
  wires_used : l.wires_used ≡ count_by (has_type_used l.device l.uses l.kind) (numbers_below l.node);
  few_used : l.wires_used ≤ l.node;
  places_used : l.places_used ≡ sum_by (λ a. if has_type_used l.device l.uses l.kind a then places_at l.device a else 0) (numbers_below l.node);
  few_places_used : l.places_used ≤ 128 * l.node;
}
