use Rattle.std.proofs.Common.{◌≡◌, map, filter}
use Rattle.net_file.specs.Routed.{is_routed_at}
use Rattle.channel_tables.specs.Fabric.{numbers_below}
use Rattle.rr_graph.specs.Designs.{net_of_design}
use Rattle.rr_graph.proofs.design.nets_of_design.Given as goal

-- the routed nets below n
abbrev pub invariant-loop-n : goal.invariant-loop-n
invariant-loop-n l = l.list.items ≡ map (net_of_design l.device l.netlist l.placement) (filter (is_routed_at l.netlist) (numbers_below l.n))
