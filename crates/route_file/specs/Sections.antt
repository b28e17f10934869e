-- The sections of a routing's lines, one for each net, and the nodes in them (VPR and T-VPack
-- manual 4.30, "Routing File Format").
use Rattle.std.specs.Prelude.{ℕ, ◌==◌, Bool, false, not, if◌then◌else◌, List, [], ◌∷◌, filter, fold, Option, Some, None}
use Rattle.std.specs.List.{list_any, filter_map}
use Rattle.std.specs.Option.{option_map_or}
use Rattle.vpr_text.specs.Words.{Line}
use Rattle.net_file.specs.Netlist.{Netlist}
use Rattle.rr_graph.specs.Fabric.{Fabric}
use Rattle.rr_graph.specs.Problems.{is_sink}
use Rattle.route_tree.specs.Paths.{Pair}
use Rattle.route_file.specs.NetLine.{is_net_line, is_net_words, net_on}
use Rattle.route_file.specs.NodeLine.{node_on}

-- the net is net n
abbrev pub is_net : ℕ → Option ℕ → Bool
is_net n net = option_map_or (λ m. m == n) net false

-- the net whose section a line with these words begins, if it begins one
abbrev pub net_begun : Netlist → (words : List (List ℕ)) → Option ℕ
net_begun netlist words = if is_net_words words then net_on netlist words else None

-- the line is that of net n
abbrev pub is_line_of : Netlist → ℕ → Line → Bool
is_line_of netlist n l = if is_net_line l then is_net n (net_on netlist l.words) else false

-- one of the lines is that of net n
unfoldable pub had_line : Netlist → List Line → ℕ → Bool
had_line netlist lines n = list_any (is_line_of netlist n) lines

-- the net of the last net's line: a line after these is in its section
unfoldable pub latest : Netlist → List Line → Option ℕ
latest netlist lines = fold (λ net l. if is_net_line l then net_on netlist l.words else net) None lines

-- the lines after the first that passes
abbrev pub lines_after : (Line → Bool) → List Line → List Line
lines_after passes [] = []
lines_after passes (l ∷ ls) = if passes l then ls else lines_after passes ls

-- the lines before the first that passes
abbrev pub lines_before : (Line → Bool) → List Line → List Line
lines_before passes [] = []
lines_before passes (l ∷ ls) = if passes l then [] else (l ∷ lines_before passes ls)

-- the section of net n: the lines after its own, up to the next net's
unfoldable pub section_of : Netlist → List Line → ℕ → List Line
section_of netlist lines n = lines_before is_net_line (lines_after (is_line_of netlist n) lines)

-- the nodes of net n's section, in order
unfoldable pub nodes_in : Netlist → Fabric → List Line → ℕ → List ℕ
nodes_in netlist f lines n = filter_map (λ l. node_on f l.words) (section_of netlist lines n)

-- each of the nodes with the next one
abbrev pub neighbours : List ℕ → List Pair
neighbours [] = []
neighbours (a ∷ []) = []
neighbours (a ∷ b ∷ nodes) = (a, b) ∷ neighbours (b ∷ nodes)

-- the pairs of nodes that are in this order: neighbours whose first is no sink
unfoldable pub pairs_along : Fabric → List ℕ → List Pair
pairs_along f nodes = filter (λ p. not (is_sink f p.0)) (neighbours nodes)

-- the list of a section with these nodes; a section without nodes has none
abbrev pub list_along : Fabric → List ℕ → Option (List Pair)
list_along f [] = None
list_along f (a ∷ nodes) = Some (pairs_along f (a ∷ nodes))

-- the list of pairs that the lines give for net n
unfoldable pub list_of_net : Netlist → Fabric → List Line → ℕ → Option (List Pair)
list_of_net netlist f lines n = list_along f (nodes_in netlist f lines n)
