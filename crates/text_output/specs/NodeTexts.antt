-- The texts of nodes (VPR and T-VPack manual 4.30, "Routing File Format").
use Rattle.std.specs.Prelude.{ℕ, Bool, List, [], ◌++◌, Option, None, Some, ◌==◌, ◌&&◌, if◌then◌else◌, codes, decimal}
use Rattle.routing_problem.specs.node.Kind.{Kind}
use Rattle.routing_problem.specs.node.Kind.TheVariants.{Source, Sink, Opin, Ipin, Chanx, Chany}
use Rattle.routing_problem.specs.node.Label.{Label}
use Rattle.routing_problem.specs.node.Label.TheVariants.{Class, Pin, Pad, Track}
use Rattle.routing_problem.specs.node.Node.{Node}
use Rattle.routing_problem.specs.node.Span.{Span}
use Rattle.routing_problem.specs.Fabric.{Fabric}
use Rattle.routing_problem.specs.Nodes.{label_of, span_of}

abbrev pub kind_text : Kind → List ℕ
kind_text Source = codes "SOURCE"
kind_text Sink = codes "SINK"
kind_text Opin = codes "OPIN"
kind_text Ipin = codes "IPIN"
kind_text Chanx = codes "CHANX"
kind_text Chany = codes "CHANY"

abbrev pub label_text : Label → List ℕ
label_text Class = codes "Class: "
label_text Pin = codes "Pin: "
label_text Pad = codes "Pad: "
label_text Track = codes "Track: "

-- a place, as `(1,2)`
unfoldable pub place_text : (x y : ℕ) → List ℕ
place_text x y = codes "(" ++ (decimal x ++ (codes "," ++ (decimal y ++ codes ")")))

abbrev pub is_one_place : Span → Bool
is_one_place s = s.x1 == s.x2 && s.y1 == s.y2

-- where a node is: its place, or the two ends of a wire of several places, as `(1,2) to (4,2)`
unfoldable pub span_text : Span → List ℕ
span_text s =
    if is_one_place s then place_text s.x1 s.y1 else (place_text s.x1 s.y1 ++ (codes " to " ++ place_text s.x2 s.y2))

-- a node, as `CHANX (1,2) Track: 0`
unfoldable pub node_text : Kind → Span → Label → ℕ → List ℕ
node_text kind span label number = kind_text kind ++ (codes " " ++ (span_text span ++ (codes " " ++ (label_text label ++ decimal number))))

-- the node of a number, as `CHANX (1,2) Track: 0`
abbrev pub text_of_node : Fabric → Option Node → List ℕ
text_of_node f (Some n) = node_text n.kind (span_of f n) (label_of f n) n.number
text_of_node f None = []
