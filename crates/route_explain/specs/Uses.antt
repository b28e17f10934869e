-- The lines on the lines of the file that name overused nodes (ours).
use Rattle.std.specs.Prelude.{ℕ, ◌==◌, Bool, true, false, List, [], ◌++◌, codes, decimal, length, take, slice_index_or, Option, None, Some}
use Rattle.std.specs.List.{flat_map, list_any}
use Rattle.vpr_text.specs.Words.{Line, number_at}
use Rattle.net_file.specs.Netlist.{Netlist}
use Rattle.net_file.specs.Routed.{no_net}
use Rattle.rr_graph.specs.Fabric.{Fabric, numbers_below}
use Rattle.rr_graph.specs.Problems.{RoutingProblem, net_in}
use Rattle.route_tree.specs.Usage.{Lists}
use Rattle.route_file.specs.Sections.{latest}
use Rattle.route_report.specs.Covered.{uses_of}
use Rattle.route_report.specs.Overused.{nets_on}
use Rattle.report_run.specs.Named.{overused_on}
use Rattle.route_explain.specs.Lines.{where_text}
use Rattle.route_explain.specs.Reasons.{node_text}

-- the name of the net with this number, after a blank
abbrev pub user_text : Netlist → (net : Option ℕ) → List ℕ
user_text netlist None = []
user_text netlist (Some n) = codes " " ++ (slice_index_or netlist.nets n no_net).name

-- one of the nets that cover the node has this number in the netlist
abbrev pub covers_as : RoutingProblem → Lists → (number : ℕ) → ℕ → Bool
covers_as p lists number a = list_any (λ i. (net_in p.nets i).number == number) (nets_on p lists a)

-- the net with this number, if there is one, covers the node
abbrev pub is_user : RoutingProblem → Lists → (net : Option ℕ) → ℕ → Bool
is_user p lists None a = false
is_user p lists (Some n) a = covers_as p lists n a

-- what a net does with a node that its section names, if it covers the node and if not
abbrev pub use_word : (covers : Bool) → List ℕ
use_word true = codes " uses node "
use_word false = codes " names node "

-- as `a.route:18: net n_1 uses node 39 CHANX (1,2) Track: 3`
unfoldable pub use_line : (path : List ℕ) → Netlist → Fabric → (line : ℕ) → (net : Option ℕ) → (covers : Bool) → (node : ℕ) → List ℕ
use_line path netlist f line net covers node =
    where_text path line ++ (codes "net" ++ (user_text netlist net
    ++ (use_word covers ++ (decimal node ++ (codes " " ++ (node_text f node ++ codes "\n"))))))

-- nothing, unless the line names an overused node
abbrev pub use_text : (path : List ℕ) → Netlist → RoutingProblem → Lists → (line : ℕ) → (net : Option ℕ) → Option ℕ → List ℕ
use_text path netlist p lists line net None = []
use_text path netlist p lists line net (Some a) = use_line path netlist p.device line net (is_user p lists net a) a

-- the text about line i of the file, which is in the section of the last net before it
unfoldable pub use_text_at : (path : List ℕ) → Netlist → RoutingProblem → Lists → List Line → ℕ → List ℕ
use_text_at path netlist p lists lines i =
    use_text path netlist p lists (number_at lines i) (latest netlist (take i lines)) (overused_on p.device (uses_of p lists) lines i)

-- the lines in their order
abbrev pub use_lines : (path : List ℕ) → Netlist → RoutingProblem → Lists → List Line → List ℕ
use_lines path netlist p lists lines = flat_map (use_text_at path netlist p lists lines) (numbers_below (length lines))
