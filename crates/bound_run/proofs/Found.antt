-- What becomes of the lines of a bound, and that they are true.
use Rattle.std.proofs.Common.{◌≡◌, ℕ, ◌*◌, ◌<◌, ◌≤◌, Bool, true, false, List, length, Option, Result, Ok, Err, inl, inr, refl, sym, ap, ◌∙◌, arith}
use Rattle.std.specs.Prelude.{◌==◌, nat_lt, max, ◌||◌, IfOk}
use Rattle.std.proofs.lemmas.Bool.{and_parts, cases_Bool, eqb-true, false≢true, ltb-true}
use Rattle.arch_file.specs.Architecture as arch
use Rattle.arch_file.specs.Architecture.{Architecture}
use Rattle.net_file.specs.Facts.{IsNetlist}
use Rattle.net_file.specs.Netlist as netlist
use Rattle.net_file.specs.Reads.{ReadsBytes}
use Rattle.place_file.specs.Placement as place
use Rattle.place_file.specs.Placement.{IsPlaced, Placement}
use Rattle.rr_graph.specs.node.Mode.{Mode}
use Rattle.rr_graph.specs.Fabric.{IsFabric, fabric_with, most_tracks}
use Rattle.rr_graph.specs.Designs.{problem_with}
use Rattle.rr_graph.proofs.DesignsRead.{read_suits}
use Rattle.route_tree.specs.Usage.{Lists}
use Rattle.route_check.specs.Routed.{IsRouted}
use Rattle.width_bound.specs.declared.figures.CutFigures.{CutFigures}
use Rattle.width_bound.specs.Cuts.{Cut, border_size}
use Rattle.width_bound.specs.CutNets.{cut_nets_of, least_width}
use Rattle.width_bound.proofs.DesignBound.{few_of_design}
use Rattle.cut_search.specs.declared.search.FoundCut.{FoundCut}
use Rattle.run_inputs.specs.declared.fault.AppFault.{AppFault}
use Rattle.run_inputs.specs.Inputs.{PlacedNetlist, placed_problem}
use Rattle.run_inputs.specs.Runs.{PrintsText, TakesNothing, Writing, writing}
use Rattle.bound_run.specs.Bounds.{IsTrueOf, figures_of, has_no_way}
use Rattle.bound_run.specs.BoundRun.{WritesBound}

-- ---- what is printed, and then written

-- lines that were not printed
pub unprinted : (lines text : List ℕ) (cut : Writing) (before after : Option (List ℕ)) (failed : Bool) (f : AppFault)
    → PrintsText (writing before after failed) lines (tt {0}) (Err f) → TakesNothing cut
    → WritesBound cut (writing before after failed) lines text (Err f)
unprinted lines text cut before after true f p nothing = (p.0, p.1, nothing)
unprinted lines text cut before after false f p nothing = let clash = p.0 in absurd cc

-- ---- what is printed is true

module _ (a : Architecture) (design : netlist.Netlist) (placement : Placement) (cut : Cut)
    (within : place.IsWithinLimits placement) (limits : arch.IsWithinLimits a) (facts : IsNetlist design)
    (read : (bytes : List ℕ) × ReadsBytes a.pins bytes design) (placed : IsPlaced a.io_rat design.blocks placement) where
  device_at : (mode : Mode) (width : ℕ) → 1 ≤ width → width ≤ most_tracks → IsFabric (fabric_with placement.nx placement.ny width mode a)
  device_at mode width some few = record {
    some_columns = within.some_columns;
    few_columns = within.few_columns;
    some_rows = within.some_rows;
    few_rows = within.few_rows;
    some_tracks = some;
    few_tracks = few;
    limits = limits;
  }

  -- nets that have neither a place nor a pin to pass have no way at any width
  no_way : (mode : Mode) (width : ℕ) (lists : Lists) → 1 ≤ width → width ≤ most_tracks → border_size placement.nx placement.ny cut ≡ 0
      → length cut.pins < cut_nets_of a design placement cut → ¬ IsRouted (problem_with mode a design placement width) lists
  no_way mode width lists some few none many = λ routed.
      let there = device_at mode width some few in
      let suits = read_suits (fabric_with placement.nx placement.ny width mode a) there placement refl refl read.0 design read.1 placed in
      let room = few_of_design a design placement cut mode width lists there facts suits routed in
      let empty = ap (λ n. width * n) none in
      omega (arith, many, room, empty)

-- a width that is ruled out otherwise is less than the least
narrow : (w least : ℕ) (b : Bool) → b ≡ false → (b || nat_lt w (max least 1)) ≡ true → 1 ≤ w → w < least
narrow w least true e ruled some = absurd (false≢true (sym e))
narrow w least false e ruled some =
    let below : w < max least 1 = ltb-true w (max least 1) ruled in
    omega (arith, below, some)

without : (c : CutFigures) → has_no_way c ≡ true → (c.places ≡ 0) × (c.pins < c.nets)
without c e = let both = and_parts (c.places == 0) (nat_lt c.pins c.nets) e in (eqb-true c.places 0 both.0, ltb-true c.pins c.nets both.1)

module _ (p : PlacedNetlist) (within : place.IsWithinLimits p.placement) (limits : arch.IsWithinLimits p.arch) (facts : IsNetlist p.netlist)
    (read : (bytes : List ℕ) × ReadsBytes p.arch.pins bytes p.netlist) (placed : IsPlaced p.arch.io_rat p.netlist.blocks p.placement) where
  is_true : (cut : Cut) (c : CutFigures) → c ≡ figures_of p cut
      → ((mode : Mode) (width : ℕ) (lists : Lists) → 1 ≤ width → width ≤ most_tracks → width < c.width → ¬ IsRouted (placed_problem mode p width) lists)
      → IsTrueOf p c
  is_true cut c is below mode width lists some few ruled =
      elim (cases_Bool (has_no_way c)) [
        | inl e ↦
            let w = without c e in
            let none = sym (ap (λ (x : CutFigures). x.places) is) ∙ w.0 in
            let pins = ap (λ (x : CutFigures). x.pins) is in
            let nets = ap (λ (x : CutFigures). x.nets) is in
            no_way p.arch p.netlist p.placement cut within limits facts read placed mode width lists some few none (omega (arith, w.1, pins, nets))
        | inr e ↦ below mode width lists some few (narrow width c.width (has_no_way c) e ruled some)
      ]

  pub truth_found : {E : Type 0} (r : Result FoundCut E) → IfOk r (λ b. b.figures ≡ figures_of p b.cut)
      → IfOk r (λ b. (mode : Mode) (width : ℕ) (lists : Lists) → 1 ≤ width → width ≤ most_tracks → width < b.figures.width
      → ¬ IsRouted (placed_problem mode p width) lists)
      → IfOk r (λ b. IsTrueOf p b.figures)
  truth_found (Ok b) is below = is_true b.cut b.figures is below
  truth_found (Err e) is below = tt

pub figures_found : {E : Type 0} (p : PlacedNetlist) (r : Result FoundCut E) → IfOk r (λ b. b.figures.nets ≡ cut_nets_of p.arch p.netlist p.placement b.cut)
    → IfOk r (λ b. b.figures.pins ≡ length b.cut.pins) → IfOk r (λ b. b.figures.places ≡ border_size p.placement.nx p.placement.ny b.cut)
    → IfOk r (λ b. b.figures.width ≡ least_width b.figures.nets b.figures.pins b.figures.places)
    → IfOk r (λ b. b.figures ≡ figures_of p b.cut)
figures_found p (Ok b) nets pins places least =
    let width : b.figures.width ≡ least_width (cut_nets_of p.arch p.netlist p.placement b.cut) (length b.cut.pins) (border_size p.placement.nx p.placement.ny b.cut) =
    rw (least, nets, pins, places) refl in
    λ i. record { nets = nets i; pins = pins i; places = places i; width = width i }
figures_found p (Err e) nets pins places least = tt
