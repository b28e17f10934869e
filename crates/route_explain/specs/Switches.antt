-- Why no switch leads from one node to another, in words (ours).
use Rattle.std.specs.Prelude.{ℕ, ◌==◌, Bool, true, false, if◌then◌else◌, List, [], codes, Option, Some}
use Rattle.rr_graph.specs.node.Kind.{Kind}
use Rattle.rr_graph.specs.node.Kind.TheVariants.{Source, Sink, Opin, Ipin, Chanx, Chany}
use Rattle.rr_graph.specs.node.Node.{Node}
use Rattle.rr_graph.specs.Fabric.{Fabric}
use Rattle.rr_graph.specs.Nodes.{node_at}
use Rattle.route_tree.specs.Paths.{Pair}

-- why two wires are not joined
abbrev pub wires_reason : (is_one_track : Bool) → List ℕ
wires_reason true = codes "they touch no common corner"
wires_reason false = codes "they are of two tracks"

-- why nodes of these kinds are not joined: the tests by which they would be joined (is_edge of
-- rr_graph), else that such nodes are never joined
abbrev pub reason_by : Kind → Kind → (is_one_track : Bool) → List ℕ
reason_by Source Opin t = codes "the pin does not belong to it"
reason_by Ipin Sink t = codes "the pin does not belong to it"
reason_by Opin Chanx t = codes "the pin does not tap the wire"
reason_by Opin Chany t = codes "the pin does not tap the wire"
reason_by Chanx Ipin t = codes "the pin does not tap the wire"
reason_by Chany Ipin t = codes "the pin does not tap the wire"
reason_by Chanx Chanx t = wires_reason t
reason_by Chanx Chany t = wires_reason t
reason_by Chany Chanx t = wires_reason t
reason_by Chany Chany t = wires_reason t
reason_by _ _ t = codes "such nodes are never joined"

abbrev pub reason_between : Option Node → Option Node → List ℕ
reason_between (Some a) (Some b) = reason_by a.kind b.kind (a.number == b.number)
reason_between _ _ = []

-- why no switch leads from the first node of a step to the second
abbrev pub switch_reason : Fabric → Pair → List ℕ
switch_reason f p =
    if p.0 == p.1 then codes "it is the same node" else reason_between (node_at f p.0) (node_at f p.1)
