-- The lines of a routing's text, and their bytes (VPR and T-VPack manual 4.30, "Routing File
-- Format"; the layout is ours).
use Rattle.std.specs.Prelude.{ℕ, List, ◌++◌, Option, Some, None, codes, decimal}
use Rattle.rr_graph.specs.node.Kind.{Kind}
use Rattle.rr_graph.specs.node.Kind.TheVariants.{Source, Sink, Opin, Ipin, Chanx, Chany}
use Rattle.rr_graph.specs.node.Label.{Label}
use Rattle.rr_graph.specs.node.Span.{Span}
use Rattle.text_output.specs.NodeTexts.{label_text, place_text, span_text}

pub data TextLine : Type 0 where
  -- the size of the array
  Size : (nx : ℕ) → (ny : ℕ) → TextLine
  Blank : TextLine
  -- the nets come after it
  Heading : TextLine
  -- a net that is routed
  RoutedNet : (number : ℕ) → (name : List ℕ) → TextLine
  -- a net that a dedicated network carries
  GlobalNet : (number : ℕ) → (name : List ℕ) → TextLine
  -- a pin on such a net: its block and the block's place, and the class of the pin, none at a pad
  Block : (name : List ℕ) → (number : ℕ) → (x : ℕ) → (y : ℕ) → (class : Option ℕ) → TextLine
  -- a node that a net is routed over
  NodeLine : Kind → Span → Label → (number : ℕ) → TextLine

-- a node's kind, right-aligned in six places
abbrev pub kind_field : Kind → List ℕ
kind_field Source = codes "SOURCE"
kind_field Sink = codes "  SINK"
kind_field Opin = codes "  OPIN"
kind_field Ipin = codes "  IPIN"
kind_field Chanx = codes " CHANX"
kind_field Chany = codes " CHANY"

-- the class of a pin; a pad has none
abbrev pub class_text : Option ℕ → List ℕ
class_text (Some class) = decimal class
class_text None = codes "-1"

-- what begins a net: its number and its name, and what comes after that
abbrev pub net_heading : (number : ℕ) → (name rest : List ℕ) → List ℕ
net_heading number name rest = codes "Net " ++ (decimal number ++ (codes " (" ++ (name ++ rest)))

-- what is on a line
unfoldable pub bytes_on : TextLine → List ℕ
bytes_on (Size nx ny) = codes "Array size: " ++ (decimal nx ++ (codes " x " ++ (decimal ny ++ codes " logic blocks.")))
bytes_on Blank = codes ""
bytes_on Heading = codes "Routing:"
bytes_on (RoutedNet number name) = net_heading number name (codes ")")
bytes_on (GlobalNet number name) = net_heading number name (codes "): global net connecting:")
bytes_on (Block name number x y class) =
    codes "Block " ++ (name ++ (codes " (#" ++ (decimal number ++ (codes ") at " ++ (place_text x y ++ (codes ", pinclass " ++ (class_text class ++ codes ".")))))))
bytes_on (NodeLine kind span label number) =
    kind_field kind ++ (codes " " ++ (span_text span ++ (codes "  " ++ (label_text label ++ decimal number))))

-- each line ends in a line feed
abbrev pub line_text : TextLine → List ℕ
line_text line = bytes_on line ++ codes "\n"
