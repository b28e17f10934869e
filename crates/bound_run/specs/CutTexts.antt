-- The text of a cut: its figures, and its region, places and pins (ours).
use Rattle.std.specs.Prelude.{ℕ, ◌+◌, ◌-◌, ◌==◌, nat_lt, Bool, false, not, ◌&&◌, ◌||◌, if◌then◌else◌, List, [], ◌++◌, codes, decimal, length, find, Option, None, Some, slice_get, slice_index_or}
use Rattle.std.specs.Option.{option_map_or}
use Rattle.std.specs.List.{flat_map, list_any}
use Rattle.net_file.specs.declared.terminal.BlockKind.{BlockKind}
use Rattle.net_file.specs.Connections.{no_block}
use Rattle.net_file.specs.Judge.{is_logic_block}
use Rattle.net_file.specs.Netlist.{Block}
use Rattle.place_file.specs.declared.site.Site.{Site}
use Rattle.place_file.specs.Placement.{kind_at}
use Rattle.rr_graph.specs.node.Kind.{Kind}
use Rattle.rr_graph.specs.node.Node.{Node}
use Rattle.rr_graph.specs.Fabric.{numbers_below}
use Rattle.text_output.specs.NodeTexts.{kind_text}
use Rattle.width_bound.specs.declared.figures.CutFigures.{CutFigures}
use Rattle.width_bound.specs.Cuts.{Cut, has_corner}
use Rattle.run_inputs.specs.Inputs.{PlacedNetlist}
use Rattle.bound_run.specs.Bounds.{figures_of, has_no_way, printed_width}

-- ---- its figures

-- the width below which there is no routing, or `none` if there is no routing at any width
abbrev pub width_text : CutFigures → List ℕ
width_text c = if has_no_way c then codes "none" else decimal (printed_width c)

-- as `bound 4`, and then lines as `nets 40`, `pins 4` and `places 10`
unfoldable pub head_text : CutFigures → List ℕ
head_text c =
    codes "bound " ++ (width_text c ++ (codes "\nnets " ++ (decimal c.nets ++ (codes "\npins " ++ (decimal c.pins
    ++ (codes "\nplaces " ++ (decimal c.places ++ codes "\n")))))))

-- ---- its region, row by row, as `corners 5 0-1 4-4`: the runs of columns in row 5

-- a run begins at the corner (x, y), as the one left of it isn't in the region; a run ends there
abbrev pub begins_run : Cut → (x y : ℕ) → Bool
begins_run cut x y = has_corner cut (x, y) && not (nat_lt 0 x && has_corner cut (x - 1, y))

abbrev pub ends_run : (nx : ℕ) → Cut → (x y : ℕ) → Bool
ends_run nx cut x y = has_corner cut (x, y) && not (nat_lt x nx && has_corner cut (x + 1, y))

-- a mark and the number, if it is printed
abbrev pub number_if : Bool → (mark : List ℕ) → ℕ → List ℕ
number_if is_printed mark n = if is_printed then mark ++ decimal n else []

unfoldable pub corner_text : (nx : ℕ) → Cut → (y x : ℕ) → List ℕ
corner_text nx cut y x = number_if (begins_run cut x y) (codes " ") x ++ number_if (ends_run nx cut x y) (codes "-") x

-- some corner of the row is in the region
abbrev pub has_row : (nx : ℕ) → Cut → (y : ℕ) → Bool
has_row nx cut y = list_any (λ x. has_corner cut (x, y)) (numbers_below (nx + 1))

unfoldable pub row_line : (nx : ℕ) → Cut → (y : ℕ) → List ℕ
row_line nx cut y = codes "corners " ++ (decimal y ++ (flat_map (corner_text nx cut y) (numbers_below (nx + 1)) ++ codes "\n"))

abbrev pub row_text : (nx : ℕ) → Cut → (y : ℕ) → List ℕ
row_text nx cut y = if has_row nx cut y then row_line nx cut y else []

abbrev pub region_text : (nx ny : ℕ) → Cut → List ℕ
region_text nx ny cut = flat_map (row_text nx cut) (numbers_below (ny + 1))

-- ---- its places, each as `place CHANX 3 4`
unfoldable pub place_line : Kind → (x y : ℕ) → List ℕ
place_line kind x y = codes "place " ++ (kind_text kind ++ (codes " " ++ (decimal x ++ (codes " " ++ (decimal y ++ codes "\n")))))

abbrev pub places_text : Cut → List ℕ
places_text cut = flat_map (λ p. place_line p.0 p.1 p.2) cut.places

-- ---- its pins, each as `pin n65 10`: a block's name, and the number of its pin; the pin of a pad
-- has the pad's number at its place

-- a block of this kind, at this site, has the pin
abbrev pub has_pin : BlockKind → Site → Node → Bool
has_pin kind s pin = (s.x == pin.x && s.y == pin.y) && (is_logic_block kind || s.subblk == pin.number)

abbrev pub is_block_of : PlacedNetlist → Node → ℕ → Bool
is_block_of p pin b = option_map_or (λ s. has_pin (kind_at p.netlist.blocks b) s pin) (slice_get p.placement.sites b) false

-- the block that has the pin
abbrev pub block_of : PlacedNetlist → Node → Option ℕ
block_of p pin = find (is_block_of p pin) (numbers_below (length p.netlist.blocks))

unfoldable pub pin_line : (name : List ℕ) → (number : ℕ) → List ℕ
pin_line name number = codes "pin " ++ (name ++ (codes " " ++ (decimal number ++ codes "\n")))

-- a pin that no block has is left out
abbrev pub pin_by : List Block → (number : ℕ) → Option ℕ → List ℕ
pin_by blocks number (Some b) = pin_line (slice_index_or blocks b no_block).name number
pin_by blocks number None = []

abbrev pub pin_text : PlacedNetlist → Node → List ℕ
pin_text p pin = pin_by p.netlist.blocks pin.number (block_of p pin)

abbrev pub pins_text : PlacedNetlist → Cut → List ℕ
pins_text p cut = flat_map (pin_text p) cut.pins

-- ---- all of it
unfoldable pub cut_text : PlacedNetlist → Cut → List ℕ
cut_text p cut =
    head_text (figures_of p cut)
    ++ (region_text p.placement.nx p.placement.ny cut ++ (places_text cut ++ pins_text p cut))
