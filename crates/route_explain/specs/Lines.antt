-- The line of a routing's file that a fault is about (ours).
use Rattle.std.specs.Prelude.{ℕ, ◌+◌, ◌-◌, ◌==◌, Bool, false, not, ◌&&◌, if◌then◌else◌, List, [], ◌∷◌, ◌++◌, codes, decimal, drop, fold, length, map, Option, None, Some, is_some}
use Rattle.std.specs.Option.{option_or}
use Rattle.vpr_text.specs.Words.{Line, number_at, words_at}
use Rattle.net_file.specs.Netlist.{Netlist}
use Rattle.rr_graph.specs.Fabric.{Fabric, numbers_below}
use Rattle.rr_graph.specs.Problems.{is_sink}
use Rattle.route_file.specs.NetLine.{is_net_line}
use Rattle.route_file.specs.NodeLine.{node_on}
use Rattle.route_file.specs.Sections.{is_net, net_begun}
use Rattle.route_explain.specs.declared.spots.Spot.{Spot}
use Rattle.route_explain.specs.declared.spots.Spot.TheVariants.{Heading, FirstNode, StepEnd}

-- line i begins the section of net n
abbrev pub begins_for : Netlist → List Line → (n i : ℕ) → Bool
begins_for netlist lines n i = is_net n (net_begun netlist (words_at lines i))

-- the place after the line that begins net n's section, among the first k lines; 0 if none does
abbrev pub start_among : Netlist → List Line → (k n : ℕ) → ℕ
start_among netlist lines k n = fold (λ start i. if begins_for netlist lines n i then i + 1 else start) 0 (numbers_below k)

-- the same, for each net
abbrev pub starts_among : Netlist → List Line → (k : ℕ) → List ℕ
starts_among netlist lines k = map (start_among netlist lines k) (numbers_below (length netlist.nets))

-- for each net the place after the line that begins its section
abbrev pub starts_of : Netlist → List Line → List ℕ
starts_of netlist lines = starts_among netlist lines (length lines)

-- the line that names the first node of a section; 0 if none does
abbrev pub first_node_line : Fabric → List Line → ℕ
first_node_line f [] = 0
first_node_line f (l ∷ ls) =
    if is_net_line l then 0 else (if is_some (node_on f l.words) then l.number else first_node_line f ls)

-- a node, if a line names one, makes a step with the last one, if there is one and it is no sink
abbrev pub ends_step : Fabric → (last next : Option ℕ) → Bool
ends_step f None next = false
ends_step f (Some a) next = is_some next && not (is_sink f a)

-- how many of the steps are left after a line; one of them ends there if `is_step`
abbrev pub left_after : (is_step : Bool) → (left : ℕ) → ℕ
left_after is_step left = if is_step then left - 1 else left

-- the line at which a step of a section ends, after the node `last` and the ends of `left` other
-- steps; 0 if none does
abbrev pub step_line : Fabric → (last : Option ℕ) → (left : ℕ) → List Line → ℕ
step_line f last left [] = 0
step_line f last left (l ∷ ls) =
    if is_net_line l then 0
    else (if ends_step f last (node_on f l.words) && left == 0 then l.number
    else step_line f (option_or (node_on f l.words) last) (left_after (ends_step f last (node_on f l.words)) left) ls)

-- the line of a spot in a section that begins after a place
abbrev pub spot_line : Fabric → List Line → (start : ℕ) → Spot → ℕ
spot_line f lines start Heading = number_at lines (start - 1)
spot_line f lines start FirstNode = first_node_line f (drop start lines)
spot_line f lines start (StepEnd k) = step_line f None k (drop start lines)

-- the same; 0 if the file has no such section
abbrev pub line_of_spot : Fabric → List Line → (start : ℕ) → Spot → ℕ
line_of_spot f lines start spot = if start == 0 then 0 else spot_line f lines start spot

-- the number of a line after a file's name, if there is such a line
abbrev pub line_text : (line : ℕ) → List ℕ
line_text line = if line == 0 then [] else codes ":" ++ decimal line

-- where something is wrong, as `a.route:12: `
unfoldable pub where_text : (path : List ℕ) → (line : ℕ) → List ℕ
where_text path line = path ++ (line_text line ++ codes ": ")
