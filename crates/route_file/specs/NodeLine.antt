-- Which node a line names by its words (VPR and T-VPack manual 4.30, "Routing File Format"; that a
-- wire of several places is named by both its ends is this project's profile).
use Rattle.std.specs.Prelude.{ℕ, Bool, true, false, ◌&&◌, ◌||◌, ◌==◌, if◌then◌else◌, List, length, Option, Some, None, unwrap_or, option_and_then, slice_get, codes}
use Rattle.std.specs.List.{position}
use Rattle.std.specs.Option.{option_map_or}
use Rattle.vpr_text.specs.Word.{is_text, is_at, is_number, number_or_0}
use Rattle.rr_graph.specs.node.Kind.{Kind}
use Rattle.rr_graph.specs.node.Kind.TheVariants.{Source, Sink, Opin, Ipin, Chanx, Chany}
use Rattle.rr_graph.specs.node.Label.{Label}
use Rattle.rr_graph.specs.node.Label.TheVariants.{Class, Pin, Pad, Track}
use Rattle.rr_graph.specs.node.Node.{Node}
use Rattle.rr_graph.specs.node.Span.{Span}
use Rattle.rr_graph.specs.Fabric.{Fabric}
use Rattle.rr_graph.specs.Nodes.{nodes_of, rank_of_kind, label_by, label_of, span_of}
use Rattle.route_file.specs.declared.node_line.NodeText.{NodeText}
use Rattle.route_file.specs.NodeWords.{node_words}

-- the kind of node that a line's first word gives
unfoldable pub kind_of : List ℕ → Option Kind
kind_of word =
    if is_text word (codes "SOURCE") then Some Source
    else (if is_text word (codes "SINK") then Some Sink
    else (if is_text word (codes "OPIN") then Some Opin
    else (if is_text word (codes "IPIN") then Some Ipin
    else (if is_text word (codes "CHANX") then Some Chanx
    else (if is_text word (codes "CHANY") then Some Chany
    else None)))))

-- what the number of a node counts, by the word before it
unfoldable pub label_from : List ℕ → Option Label
label_from word =
    if is_text word (codes "Class:") then Some Class
    else (if is_text word (codes "Pin:") then Some Pin
    else (if is_text word (codes "Pad:") then Some Pad
    else (if is_text word (codes "Track:") then Some Track
    else None)))

abbrev pub kind_on : List (List ℕ) → Option Kind
kind_on words = option_and_then kind_of (slice_get words 0)

abbrev pub label_on : List (List ℕ) → ℕ → Option Label
label_on words j = option_and_then label_from (slice_get words j)

abbrev pub rank_of_label : Label → ℕ
rank_of_label Class = 0
rank_of_label Pin = 1
rank_of_label Pad = 2
rank_of_label Track = 3

abbrev pub same_label : Label → Label → Bool
same_label a b = rank_of_label a == rank_of_label b

-- nodes of the kind have this label, at a logic block or at a pad
unfoldable pub takes : Kind → Label → Bool
takes kind label = same_label label (label_by kind true) || same_label label (label_by kind false)

abbrev pub takes_both : Option Kind → Option Label → Bool
takes_both (Some kind) label = option_map_or (takes kind) label false
takes_both None label = false

unfoldable pub is_wire : Kind → Bool
is_wire Chanx = true
is_wire Chany = true
is_wire _ = false

-- five words: kind, x, y, label, number
unfoldable pub is_place_line : List (List ℕ) → Bool
is_place_line words =
    length words == 5
    && is_number words 1
    && is_number words 2
    && takes_both (kind_on words) (label_on words 3)
    && is_number words 4

-- eight words for a wire: kind, x, y, `to`, x, y, label, number
unfoldable pub is_span_line : List (List ℕ) → Bool
is_span_line words =
    length words == 8
    && option_map_or is_wire (kind_on words) false
    && is_number words 1
    && is_number words 2
    && is_at words 3 (codes "to")
    && is_number words 4
    && is_number words 5
    && takes_both (kind_on words) (label_on words 6)
    && is_number words 7

-- the ends, the label and the number that a line of the node's kind gives; with five words both
-- ends are the one place
unfoldable pub place_text : List (List ℕ) → NodeText
place_text words =
    record {
      kind = unwrap_or (kind_on words) Source;
      x1 = number_or_0 words 1;
      y1 = number_or_0 words 2;
      x2 = number_or_0 words 1;
      y2 = number_or_0 words 2;
      label = unwrap_or (label_on words 3) Class;
      number = number_or_0 words 4;
    }

unfoldable pub span_text : List (List ℕ) → NodeText
span_text words =
    record {
      kind = unwrap_or (kind_on words) Source;
      x1 = number_or_0 words 1;
      y1 = number_or_0 words 2;
      x2 = number_or_0 words 4;
      y2 = number_or_0 words 5;
      label = unwrap_or (label_on words 6) Class;
      number = number_or_0 words 7;
    }

-- what the words of a node's line say, if they are such a line
unfoldable pub text_of : List (List ℕ) → Option NodeText
text_of words = if is_place_line words then Some (place_text words) else (if is_span_line words then Some (span_text words) else None)

-- the two ends are the first and the last place of a node, in either order
unfoldable pub are_ends : Span → NodeText → Bool
are_ends s t =
    (s.x1 == t.x1 && s.y1 == t.y1 && (s.x2 == t.x2 && s.y2 == t.y2))
    || (s.x1 == t.x2 && s.y1 == t.y2 && (s.x2 == t.x1 && s.y2 == t.y1))

-- the node is the one that is reported: of this kind and number, between these ends, with the label
-- that its place gives it
unfoldable pub is_reported : Fabric → NodeText → Node → Bool
is_reported f t n = rank_of_kind n.kind == rank_of_kind t.kind && n.number == t.number && are_ends (span_of f n) t && same_label (label_of f n) t.label

-- the number of the node that is reported, if the device has it
unfoldable pub node_reported : Fabric → NodeText → Option ℕ
node_reported f t = position (is_reported f t) (nodes_of f)

-- the number of the node that a line with these words names, if it is a node's line and the device
-- has the node
unfoldable pub node_on : Fabric → List (List ℕ) → Option ℕ
node_on f words = option_and_then (node_reported f) (text_of (node_words words))
