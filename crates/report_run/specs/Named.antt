-- The lines on the lines of the routing file that name overused nodes (ours).
use Rattle.std.specs.Prelude.{ℕ, if◌then◌else◌, List, [], ◌++◌, codes, decimal, length, Option, None, Some}
use Rattle.std.specs.List.{flat_map}
use Rattle.vpr_text.specs.Words.{Line, number_at, words_at}
use Rattle.rr_graph.specs.Fabric.{Fabric, numbers_below}
use Rattle.route_file.specs.NodeLine.{node_on}
use Rattle.route_report.specs.Overused.{is_over}

-- as `line 18 node 39`
unfoldable pub naming_line : (line node : ℕ) → List ℕ
naming_line line node = codes "line " ++ (decimal line ++ (codes " node " ++ (decimal node ++ codes "\n")))

-- the node, if it is overused
abbrev pub if_over : Fabric → (uses : List ℕ) → Option ℕ → Option ℕ
if_over f uses None = None
if_over f uses (Some a) = if is_over f uses a then Some a else None

-- the overused node that line i of the file names, if it names one
abbrev pub overused_on : Fabric → (uses : List ℕ) → List Line → ℕ → Option ℕ
overused_on f uses lines i = if_over f uses (node_on f (words_at lines i))

-- nothing, unless the line names an overused node
abbrev pub named_text : (line : ℕ) → Option ℕ → List ℕ
named_text line None = []
named_text line (Some a) = naming_line line a

-- the text about line i of the file
unfoldable pub named_at : Fabric → (uses : List ℕ) → List Line → ℕ → List ℕ
named_at f uses lines i = named_text (number_at lines i) (overused_on f uses lines i)

-- the lines in their order
abbrev pub naming_lines : Fabric → (uses : List ℕ) → List Line → List ℕ
naming_lines f uses lines = flat_map (named_at f uses lines) (numbers_below (length lines))
