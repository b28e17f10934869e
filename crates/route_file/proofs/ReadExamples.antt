-- Worked examples of reading that compute: a netlist of the nets a and y, of which y is global, on
-- no particular device.
use Rattle.std.proofs.Common.{◌≡◌, ℕ, Bool, true, false, List, [], ◌∷◌, Some, None, Ok, Err, refl}
use Rattle.std.specs.Prelude.{codes, ◌==◌}
use Rattle.vpr_text.specs.Words.{Line}
use Rattle.vpr_text.specs.Word.{is_text}
use Rattle.net_file.specs.Names.{number_among}
use Rattle.net_file.specs.Netlist.{Netlist, Net}
use Rattle.rr_graph.specs.node.Kind.TheVariants.{Ipin, Chanx}
use Rattle.rr_graph.specs.node.Label.TheVariants.{Pin, Track}
use Rattle.route_file.specs.declared.entry.FileEntry.TheVariants.{NetLine}
use Rattle.route_file.specs.declared.fault.RouteFileFault.TheVariants.{BadLine, UnknownNet, NetTwice}
use Rattle.route_file.specs.Judge.{net_entry}
use Rattle.route_file.specs.NetLine.{before_ending, enclosed, is_plain_form, is_global_form, name_on, net_on}
use Rattle.route_file.specs.NodeLine.{kind_of, label_from, takes, is_wire, is_place_line, is_span_line, place_text, span_text, text_of}
use Rattle.route_file.specs.NodeWords.{pieces_of, node_words}
use Rattle.route_file.specs.Sections.{had_line, latest, section_of, neighbours}

-- ---- the words of node lines

abbrev wire : List (List ℕ)
wire = codes "CHANX" ∷ codes "(2,0)" ∷ codes "to" ∷ codes "(1,0)" ∷ codes "Track:" ∷ codes "0" ∷ []

abbrev pin : List (List ℕ)
pin = codes "IPIN" ∷ codes "(1,1)" ∷ codes "Pin:" ∷ codes "0" ∷ []

-- brackets and commas separate words, also within a word and several in a row
pub cut_words : node_words (codes "IPIN(1,,1)" ∷ codes "Pin:" ∷ codes ")" ∷ codes "0" ∷ []) ≡ codes "IPIN" ∷ codes "1" ∷ codes "1" ∷ codes "Pin:" ∷ codes "0" ∷ []
unfolding node_words pieces_of
cut_words = refl

-- a wire is reported by its two ends, a pin by its place
pub wire_reported : text_of (node_words wire) ≡ Some (record { kind = Chanx; x1 = 2; y1 = 0; x2 = 1; y2 = 0; label = Track; number = 0 })
unfolding text_of is_place_line is_span_line place_text span_text kind_of label_from takes is_wire node_words pieces_of is_text
wire_reported = refl

pub pin_reported : text_of (node_words pin) ≡ Some (record { kind = Ipin; x1 = 1; y1 = 1; x2 = 1; y2 = 1; label = Pin; number = 0 })
unfolding text_of is_place_line is_span_line place_text span_text kind_of label_from takes is_wire node_words pieces_of is_text
pin_reported = refl

-- no pin has two ends, and no pin is on a track
pub no_pins : (text_of (node_words (codes "IPIN" ∷ codes "(1,1)" ∷ codes "to" ∷ codes "(1,1)" ∷ codes "Pin:" ∷ codes "0" ∷ [])) ≡ None) × (text_of (node_words (codes "IPIN" ∷ codes "(1,1)" ∷ codes "Track:" ∷ codes "0" ∷ [])) ≡ None)
unfolding text_of is_place_line is_span_line place_text span_text kind_of label_from takes is_wire node_words pieces_of is_text
no_pins = (refl, refl)

-- ---- the lines of nets

-- a name goes up to the last bracket; `()` has one of no bytes, and `(` none
pub names : (enclosed (codes ")") (codes "(a)(b)") ≡ Some (codes "a)(b")) × (enclosed (codes ")") (codes "()") ≡ Some []) × (enclosed (codes ")") (codes "(") ≡ None) × (enclosed (codes "):") (codes "(y):") ≡ Some (codes "y"))
unfolding enclosed before_ending is_text
names = (refl, refl, refl, refl)

abbrev net : List ℕ → Bool → Net
net name global = record { name = name; global = global; driver = record { block = 0; class = None }; sinks = [] }

abbrev nets : Netlist
nets = record { blocks = []; nets = net (codes "a") false ∷ net (codes "y") true ∷ [] }

abbrev line_of : List ℕ → List (List ℕ)
line_of name = codes "Net" ∷ codes "7" ∷ name ∷ []

abbrev global_line_of : List ℕ → List (List ℕ)
global_line_of name = codes "Net" ∷ codes "7" ∷ name ∷ codes "global" ∷ codes "net" ∷ codes "connecting:" ∷ []

-- where one of the lines before was that of net 1
abbrev had_other : ℕ → Bool
had_other n = n == 1

pub net_lines : (net_entry nets had_other 3 (line_of (codes "(a)")) ≡ Ok (NetLine 0))
    × (net_entry nets had_other 3 (line_of (codes "(b)")) ≡ Err (UnknownNet 3))
    × (net_entry nets had_other 3 (line_of (codes "(y)")) ≡ Err (UnknownNet 3))
    × (net_entry nets had_other 3 (global_line_of (codes "(y):")) ≡ Err (NetTwice 3))
    × (net_entry nets had_other 3 (line_of (codes "a")) ≡ Err (BadLine 3))
unfolding net_entry is_plain_form is_global_form name_on net_on number_among enclosed before_ending is_text
net_lines = (refl, refl, refl, refl, refl)

-- ---- sections

abbrev lines : List Line
lines = record { number = 3; words = line_of (codes "(a)") } ∷ record { number = 4; words = pin } ∷ record { number = 5; words = global_line_of (codes "(y):") } ∷ record { number = 6; words = codes "Block" ∷ [] } ∷ []

-- the section of a is the one line after its own, and the next line is in that of y
pub sections : (section_of nets lines 0 ≡ record { number = 4; words = pin } ∷ []) × (latest nets lines ≡ Some 1) × (had_line nets lines 0 ≡ true)
unfolding section_of latest had_line net_on is_plain_form is_global_form name_on number_among enclosed before_ending is_text
sections = (refl, refl, refl)

-- each node with the next
pub pairs : neighbours (0 ∷ 18 ∷ 39 ∷ []) ≡ (0, 18) ∷ (18, 39) ∷ []
pairs = refl
