-- Which lines of a routing's file name the nodes of a net's list (ours).
use Rattle.std.specs.Prelude.{◌≡◌, ℕ, ◌<◌, Bool, true, ◌||◌, List, length, Some}
use Rattle.std.specs.List.{filter_map}
use Rattle.vpr_text.specs.Words.{Line, number_at, words_at}
use Rattle.net_file.specs.Netlist.{Netlist}
use Rattle.rr_graph.specs.Fabric.{Fabric}
use Rattle.rr_graph.specs.Problems.{RoutingProblem, net_in}
use Rattle.route_tree.specs.Paths.{Pair}
use Rattle.route_tree.specs.Usage.{Lists}
use Rattle.route_file.specs.NetLine.{is_net_line}
use Rattle.route_file.specs.NodeLine.{node_on}
use Rattle.route_file.specs.Sections.{lines_before, pairs_along}
use Rattle.route_explain.specs.Steps.{begins_at, ends_at}
use Rattle.route_explain.specs.Uses.{use_line, use_text_at}

-- the nodes that these lines name up to the next net's line, and the steps along them
abbrev pub nodes_from : Fabric → List Line → List ℕ
nodes_from f ls = filter_map (λ l. node_on f l.words) (lines_before is_net_line ls)

abbrev pub pairs_from : Fabric → List Line → List Pair
pairs_from f ls = pairs_along f (nodes_from f ls)

-- one of these lines, before the next net's, has this number and names the node
pub record IsLineOf (f : Fabric) (ls : List Line) (number a : ℕ) : Type 0 where
  pub place : ℕ
  pub within : place < length (lines_before is_net_line ls)
  pub numbered : number_at ls place ≡ number
  pub names : node_on f (words_at ls place) ≡ Some a

-- a step of the list begins or ends at the node
abbrev pub is_at_step : List Pair → ℕ → Bool
is_at_step pairs a = begins_at pairs a || ends_at pairs a

-- an explanation says for some line of the file that net i of the problem uses the node
pub record HasUseLine (netlist : Netlist) (p : RoutingProblem) (lines : List Line) (lists : Lists) (i a : ℕ) : Type 0 where
  pub place : ℕ
  pub within : place < length lines
  pub says : (path : List ℕ)
      → use_text_at path netlist p lists lines place ≡ use_line path netlist p.device (number_at lines place) (Some (net_in p.nets i).number) true a
