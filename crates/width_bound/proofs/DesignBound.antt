-- The bound of a placed design: as many nets are cut at every width, and at the one of a routing no
-- more than may pass.
use Rattle.std.proofs.Common.{◌≡◌, ℕ, ◌+◌, ◌*◌, ◌<◌, ◌≤◌, true, length, List, refl, ap, ◌∙◌, subst, Result, Ok, Err, arith}
use Rattle.std.specs.Prelude.{IfOk}
use Rattle.arch_file.specs.Architecture.{Architecture}
use Rattle.net_file.specs.Facts.{IsNetlist}
use Rattle.net_file.specs.Netlist as netlist
use Rattle.net_file.specs.Reads.{ReadsBytes}
use Rattle.place_file.specs.Placement.{IsPlaced, Placement}
use Rattle.rr_graph.specs.node.Mode.{Mode}
use Rattle.rr_graph.specs.node.Mode.TheVariants.{Detailed}
use Rattle.rr_graph.specs.Fabric.{Fabric, IsFabric, fabric_with, most_tracks}
use Rattle.rr_graph.specs.Problems.{RoutingProblem}
use Rattle.rr_graph.specs.Designs.{problem_from, problem_with, suits_design}
use Rattle.rr_graph.proofs.Designs.{is_problem}
use Rattle.rr_graph.proofs.DesignsRead.{read_suits}
use Rattle.route_tree.specs.Usage.{Lists}
use Rattle.route_check.specs.Routed.{IsRouted}
use Rattle.width_bound.specs.declared.figures.CutFigures.{CutFigures}
use Rattle.width_bound.specs.Cuts.{Cut, border_size}
use Rattle.width_bound.specs.CutNets.{cut_nets, cut_nets_of, least_width}
use Rattle.width_bound.proofs.Bound.{few_are_cut}
use Rattle.width_bound.proofs.SameCount.{same_count}
use Rattle.width_bound.proofs.Rounding.{rounded_up}

-- a device one track wide
one_track : (a : Architecture) (nx ny width : ℕ) (mode : Mode) → IsFabric (fabric_with nx ny width mode a) → IsFabric (fabric_with nx ny 1 Detailed a)
one_track a nx ny width mode l = record {
  some_columns = l.some_columns;
  few_columns = l.few_columns;
  some_rows = l.some_rows;
  few_rows = l.few_rows;
  some_tracks = omega arith;
  few_tracks = omega arith;
  limits = l.limits;
}

module _ (a : Architecture) (design : netlist.Netlist) (placement : Placement) (cut : Cut) (mode : Mode) (width : ℕ) (lists : Lists)
    (l : IsFabric (fabric_with placement.nx placement.ny width mode a)) (limits : IsNetlist design)
    (suits : suits_design (fabric_with placement.nx placement.ny width mode a) design placement ≡ true)
    (routed : IsRouted (problem_with mode a design placement width) lists) where
  pub few_of_design : cut_nets_of a design placement cut ≤ length cut.pins + width * border_size placement.nx placement.ny cut
  unfolding problem_from
  few_of_design =
      let f = fabric_with placement.nx placement.ny width mode a in
      let here = few_are_cut (problem_from f design placement) lists cut l (is_problem f design placement suits limits) routed in
      let same = same_count a design placement cut width 1 mode Detailed l (one_track a placement.nx placement.ny width mode l) limits suits in
      omega (arith, here, same)

  enough : least_width (cut_nets_of a design placement cut) (length cut.pins) (border_size placement.nx placement.ny cut) ≤ width
  enough = rounded_up (cut_nets_of a design placement cut) (length cut.pins) (border_size placement.nx placement.ny cut) width few_of_design

pub no_narrower : (a : Architecture) (design : netlist.Netlist) (placement : Placement) (cut : Cut) (mode : Mode) (width : ℕ) (lists : Lists) →
    IsFabric (fabric_with placement.nx placement.ny width mode a) → IsNetlist design →
    suits_design (fabric_with placement.nx placement.ny width mode a) design placement ≡ true →
    width < least_width (cut_nets_of a design placement cut) (length cut.pins) (border_size placement.nx placement.ny cut) →
    ¬ IsRouted (problem_with mode a design placement width) lists
no_narrower a design placement cut mode width lists l limits suits narrow = λ routed.
    let least = enough a design placement cut mode width lists l limits suits routed in
    omega (arith, narrow, least)

-- the device of an array at another width
any_tracks : (a : Architecture) (nx ny width : ℕ) (mode : Mode) → IsFabric (fabric_with nx ny 1 Detailed a) → 1 ≤ width → width ≤ most_tracks → IsFabric (fabric_with nx ny width mode a)
any_tracks a nx ny width mode l some few = record {
  some_columns = l.some_columns;
  few_columns = l.few_columns;
  some_rows = l.some_rows;
  few_rows = l.few_rows;
  some_tracks = some;
  few_tracks = few;
  limits = l.limits;
}

-- what was counted of a design that was read says below which widths there is no routing
pub none_below : (a : Architecture) (design : netlist.Netlist) (placement : Placement) (cut : Cut) (nets pins places least : ℕ) →
    IsFabric (fabric_with placement.nx placement.ny 1 Detailed a) → IsNetlist design →
    (bytes : List ℕ) × ReadsBytes a.pins bytes design → IsPlaced a.io_rat design.blocks placement →
    nets ≡ cut_nets_of a design placement cut → pins ≡ length cut.pins → places ≡ border_size placement.nx placement.ny cut → least ≡ least_width nets pins places →
    (mode : Mode) (width : ℕ) (lists : Lists) → 1 ≤ width → width ≤ most_tracks → width < least → ¬ IsRouted (problem_with mode a design placement width) lists
none_below a design placement cut nets pins places least l limits read placed e g h k mode width lists some few narrow =
    let there = any_tracks a placement.nx placement.ny width mode l some few in
    let suits = read_suits (fabric_with placement.nx placement.ny width mode a) there placement refl refl read.0 design read.1 placed in
    let same : least ≡ least_width (cut_nets_of a design placement cut) (length cut.pins) (border_size placement.nx placement.ny cut) = rw (k, e, g, h) refl in
    no_narrower a design placement cut mode width lists there limits suits (omega (arith, narrow, same))

device_is : (a : Architecture) (design : netlist.Netlist) (placement : Placement) (p : RoutingProblem) → p ≡ problem_with Detailed a design placement 1 →
    p.device ≡ fabric_with placement.nx placement.ny 1 Detailed a
unfolding problem_from
device_is a design placement p e = ap (λ (q : RoutingProblem). q.device) e

module _ {E : Type 0} (a : Architecture) (design : netlist.Netlist) (placement : Placement) (cut : Cut) (p : RoutingProblem)
    (made : p ≡ problem_with Detailed a design placement 1) where
  -- of which array the border is counted
  pub places_told : (r : Result CutFigures E) → IfOk r (λ c. c.places ≡ border_size p.device.nx p.device.ny cut) → IfOk r (λ c. c.places ≡ border_size placement.nx placement.ny cut)
  places_told (Ok c) e = e ∙ ap (λ (f : Fabric). border_size f.nx f.ny cut) (device_is a design placement p made)
  places_told (Err x) e = tt

  -- below the width that is told there is no routing
  pub none_told : (r : Result CutFigures E) → IsFabric p.device → IsNetlist design → (bytes : List ℕ) × ReadsBytes a.pins bytes design →
      IsPlaced a.io_rat design.blocks placement → IfOk r (λ c. c.nets ≡ cut_nets p cut) → IfOk r (λ c. c.pins ≡ length cut.pins) →
      IfOk r (λ c. c.places ≡ border_size p.device.nx p.device.ny cut) → IfOk r (λ c. c.width ≡ least_width c.nets c.pins c.places) →
      IfOk r (λ c. (mode : Mode) (width : ℕ) (lists : Lists) → 1 ≤ width → width ≤ most_tracks → width < c.width → ¬ IsRouted (problem_with mode a design placement width) lists)
  none_told (Ok c) l limits read placed nets pins places least =
      none_below a design placement cut c.nets c.pins c.places c.width (subst IsFabric (device_is a design placement p made) l) limits read placed
      (nets ∙ ap (λ q. cut_nets q cut) made) pins (places_told (Ok c) places) least
  none_told (Err x) l limits read placed nets pins places least = tt
