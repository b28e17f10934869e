-- What a cut shows about a placed netlist, and the lines that are printed (ours).
use Rattle.std.specs.Prelude.{◌≡◌, ℕ, ◌≤◌, ◌==◌, nat_lt, max, Bool, true, ◌&&◌, ◌||◌, if◌then◌else◌, List, ◌++◌, codes, decimal, length}
use Rattle.rr_graph.specs.node.Mode.{Mode}
use Rattle.rr_graph.specs.Fabric.{most_tracks}
use Rattle.route_tree.specs.Usage.{Lists}
use Rattle.route_check.specs.Routed.{IsRouted}
use Rattle.width_bound.specs.declared.figures.CutFigures.{CutFigures}
use Rattle.width_bound.specs.Cuts.{Cut, border_size}
use Rattle.width_bound.specs.CutNets.{cut_nets_of, least_width}
use Rattle.run_inputs.specs.Inputs.{PlacedNetlist, placed_problem}

abbrev pub figures_with : (nets pins places : ℕ) → CutFigures
figures_with nets pins places = record { nets = nets; pins = pins; places = places; width = least_width nets pins places }

-- the figures of a cut of a placed netlist
abbrev pub figures_of : PlacedNetlist → Cut → CutFigures
figures_of p cut =
    figures_with (cut_nets_of p.arch p.netlist p.placement cut) (length cut.pins) (border_size p.placement.nx p.placement.ny cut)

-- more nets are cut than pins are given up, and there is no place for the others
abbrev pub has_no_way : CutFigures → Bool
has_no_way c = c.places == 0 && nat_lt c.pins c.nets

-- the width below which there is no routing; every width is at least 1
abbrev pub printed_width : CutFigures → ℕ
printed_width c = max c.width 1

-- the lines rule a width out
abbrev pub is_ruled_out : CutFigures → (width : ℕ) → Bool
is_ruled_out c width = has_no_way c || nat_lt width (printed_width c)

-- there is no routing at a width that is ruled out, in either mode
abbrev pub IsTrueOf : PlacedNetlist → CutFigures → Type 0
IsTrueOf p c =
    (mode : Mode) (width : ℕ) (lists : Lists) → 1 ≤ width → width ≤ most_tracks → is_ruled_out c width ≡ true
    → ¬ IsRouted (placed_problem mode p width) lists

-- ---- the lines

-- as `no routing below width 4`
unfoldable pub below_line : (width : ℕ) → List ℕ
below_line width = codes "no routing below width " ++ (decimal width ++ codes "\n")

abbrev pub width_line : CutFigures → List ℕ
width_line c = if has_no_way c then codes "no routing at any width\n" else below_line (printed_width c)

-- as `40 nets are cut by 10 places of channels and 4 pins`
unfoldable pub count_line : CutFigures → List ℕ
count_line c =
    decimal c.nets ++ (codes " nets are cut by " ++ (decimal c.places
    ++ (codes " places of channels and " ++ (decimal c.pins ++ codes " pins\n"))))

unfoldable pub bound_lines : CutFigures → List ℕ
bound_lines c = width_line c ++ count_line c
