-- A routing file as a list of lines: what is read, or the first fault (VPR and T-VPack manual 4.30;
-- the faults and their order are this project's profile).
use Rattle.std.specs.Prelude.{ℕ, List, [], drop, map, Option, Result, Ok}
use Rattle.vpr_text.specs.Readings.{◌>>=◌, unless_faulty, with_fault}
use Rattle.vpr_text.specs.Words.{Line}
use Rattle.vpr_text.specs.Text.{lines_of}
use Rattle.net_file.specs.Netlist.{Netlist}
use Rattle.rr_graph.specs.Problems.{RoutingProblem}
use Rattle.route_tree.specs.Paths.{Pair}
use Rattle.route_file.specs.declared.fault.RouteFileFault.{RouteFileFault}
use Rattle.route_file.specs.declared.fault.RouteFileFault.TheVariants as route
use Rattle.route_file.specs.Judge.{header_fault, fault_from}
use Rattle.route_file.specs.Sections.{list_of_net}

-- the list of each net of the problem
unfoldable pub lists_in : Netlist → RoutingProblem → List Line → List (Option (List Pair))
lists_in netlist problem lines = map (λ net. list_of_net netlist problem.device lines net.number) problem.nets

-- lines as a routing
unfoldable pub reading : Netlist → RoutingProblem → List Line → Result (List (Option (List Pair))) RouteFileFault
reading netlist problem lines =
    unless_faulty (header_fault problem.device lines)
    (unless_faulty (fault_from netlist problem.device [] (drop 2 lines)) (Ok (lists_in netlist problem (drop 2 lines))))

-- bytes as a routing
unfoldable pub routing_of : Netlist → RoutingProblem → List ℕ → Result (List (Option (List Pair))) RouteFileFault
routing_of netlist problem bytes = with_fault route.Text (lines_of bytes) >>= reading netlist problem
