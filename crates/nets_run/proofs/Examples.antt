-- Lines of nets that are known.
use Rattle.std.proofs.Common.{◌≡◌, [], ◌∷◌, ℕ, List, codes, refl, false}
use Rattle.std.specs.Prelude.{None}
use Rattle.std.specs.Fmt.{digits}
use Rattle.net_file.specs.Netlist as netlist
use Rattle.net_file.specs.Netlist.{Netlist}
use Rattle.rr_graph.specs.Fabric.{Fabric}
use Rattle.rr_graph.specs.Problems.{RoutingProblem}
use Rattle.nets_run.specs.Nets.{beginning_text, net_line, nets_text, sink_text}

abbrev some_net : (name : List ℕ) → netlist.Net
some_net name = record { name = name; global = false; driver = record { block = 0; class = None }; sinks = [] }

-- three nets, of which the second is not routed
abbrev some_netlist : Netlist
some_netlist = record { blocks = []; nets = some_net (codes "rx") ∷ some_net (codes "clk") ∷ some_net (codes "n_10") ∷ [] }

abbrev some_problem : Fabric → RoutingProblem
some_problem f = record {
  device = f;
  nets =
      (record { number = 0; source = 91; sinks = 121 ∷ 125 ∷ [] })
      ∷ (record { number = 2; source = 4; sinks = 1038 ∷ [] }) ∷ [];
}

pub lines : (f : Fabric) → nets_text some_netlist (some_problem f) ≡ codes "net 0 rx source 91 sinks 121 125\nnet 2 n_10 source 4 sinks 1038\n"
unfolding digits nets_text net_line beginning_text sink_text
lines f = refl

-- without a routed net there is no line
pub no_lines : (f : Fabric) → nets_text some_netlist (record { device = f; nets = [] }) ≡ []
unfolding nets_text
no_lines f = refl
