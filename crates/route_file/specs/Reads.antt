-- Which routing a text is, for a netlist and a routing problem of its routed nets (VPR and T-VPack
-- manual 4.30, "Routing File Format").
use Rattle.std.specs.Prelude.{◌≡◌, ℕ, ◌<◌, ◌≤◌, true, List, [], ◌∷◌, ◌++◌, length, drop, slice_index_or, Option, None, Ok}
use Rattle.vpr_text.specs.Words.{Line, words_at}
use Rattle.vpr_text.specs.Text.{lines_of}
use Rattle.net_file.specs.Netlist.{Netlist}
use Rattle.rr_graph.specs.Fabric.{Fabric}
use Rattle.rr_graph.specs.Problems.{RoutingProblem, net_in}
use Rattle.route_tree.specs.Paths.{Pair}
use Rattle.route_file.specs.Judge.{is_size_line, is_size_of, is_title, line_fault}
use Rattle.route_file.specs.Sections.{list_of_net}

-- after those before it each of the lines is without a fault
abbrev pub AreAccepted : Netlist → Fabric → (before ls : List Line) → Type 0
AreAccepted netlist f before [] = Unit {0}
AreAccepted netlist f before (l ∷ ls) = (line_fault netlist f before l ≡ None) × AreAccepted netlist f (before ++ l ∷ []) ls

-- the first two lines are the head, no line after them is faulty, and each net's list is that of
-- its section
pub record ReadsRoute (netlist : Netlist) (problem : RoutingProblem) (lines : List Line) (routing : List (Option (List Pair))) : Type 0 where
  pub two_lines : 2 ≤ length lines
  pub size_line : is_size_line (words_at lines 0) ≡ true
  pub same_size : is_size_of problem.device (words_at lines 0) ≡ true
  pub title : is_title (words_at lines 1) ≡ true
  pub each_line : AreAccepted netlist problem.device [] (drop 2 lines)
  pub count : length routing ≡ length problem.nets
  pub each_list : (i : ℕ) → i < length problem.nets → slice_index_or routing i None ≡ list_of_net netlist problem.device (drop 2 lines) (net_in problem.nets i).number

-- the bytes are a text without faults, and its lines are read as this routing
pub record ReadsBytes (netlist : Netlist) (problem : RoutingProblem) (bytes : List ℕ) (routing : List (Option (List Pair))) : Type 0 where
  pub lines : List Line
  pub is_text : lines_of bytes ≡ Ok lines
  pub reads : ReadsRoute netlist problem lines routing
