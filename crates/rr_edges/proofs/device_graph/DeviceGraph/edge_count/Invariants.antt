use Rattle.std.proofs.Common.{◌≡◌, ◌*◌, ◌^◌, length, ◌≤◌}
use Rattle.std.specs.List.{sum_by}
use Rattle.channel_tables.specs.Fabric.{numbers_below}
use Rattle.rr_edges.specs.Edges.{successors_of}
use Rattle.rr_edges.proofs.device_graph.DeviceGraph.edge_count.Given as goal

abbrev pub invariant-loop-id : goal.invariant-loop-id
invariant-loop-id l = (l.count ≡ sum_by (λ i. length (successors_of l.self i)) (numbers_below l.id)) × (l.count ≤ 2 ^ 23 * l.id)
