-- Texts of cuts that are known.
use Rattle.std.proofs.Common.{◌≡◌, [], ◌∷◌, codes, refl}
use Rattle.std.specs.Fmt.{digits}
use Rattle.arch_file.specs.Architecture.{Architecture}
use Rattle.net_file.specs.Netlist.{Netlist}
use Rattle.net_file.specs.declared.terminal.BlockKind.TheVariants.{InputPad, LogicBlock}
use Rattle.place_file.specs.Placement.{Placement}
use Rattle.rr_graph.specs.node.Kind.TheVariants.{Chanx, Ipin, Opin}
use Rattle.width_bound.specs.Cuts.{Cut, has_corner}
use Rattle.run_inputs.specs.Inputs.{placed_with}
use Rattle.bound_run.specs.Bounds.{below_line, bound_lines, count_line, figures_with}
use Rattle.bound_run.specs.CutTexts.{corner_text, head_text, pin_line, pins_text, place_line, places_text, region_text, row_line}

-- the lines where there is a bound, where there is none, and where nets have no way
pub lines :
    (bound_lines (figures_with 40 4 10) ≡ codes "no routing below width 4\n40 nets are cut by 10 places of channels and 4 pins\n")
    × (bound_lines (figures_with 3 4 10) ≡ codes "no routing below width 1\n3 nets are cut by 10 places of channels and 4 pins\n")
    × (bound_lines (figures_with 5 4 0) ≡ codes "no routing at any width\n5 nets are cut by 0 places of channels and 4 pins\n")
unfolding digits bound_lines below_line count_line
lines = (refl, refl, refl)

pub heads :
    (head_text (figures_with 40 4 10) ≡ codes "bound 4\nnets 40\npins 4\nplaces 10\n")
    × (head_text (figures_with 5 4 0) ≡ codes "bound none\nnets 5\npins 4\nplaces 0\n")
unfolding digits head_text
heads = (refl, refl)

-- a row with two runs, one without a corner, and one whose run ends at the edge of the array; an
-- input of a logic block, the second pad of a place, and a pin that no block has
abbrev some_cut : Cut
some_cut = record {
  corners = (0, 0) ∷ (3, 0) ∷ (1, 0) ∷ (2, 2) ∷ (3, 2) ∷ [];
  places = (Chanx, 3, 4) ∷ [];
  pins =
      (record { kind = Ipin; x = 1; y = 1; number = 10 }) ∷ (record { kind = Opin; x = 0; y = 1; number = 1 })
      ∷ (record { kind = Opin; x = 0; y = 1; number = 2 }) ∷ [];
}

pub region : region_text 3 2 some_cut ≡ codes "corners 0 0-1 3-3\ncorners 2 2-3\n"
unfolding digits row_line corner_text has_corner
region = refl

pub places : places_text some_cut ≡ codes "place CHANX 3 4\n"
unfolding digits place_line
places = refl

abbrev some_blocks : Netlist
some_blocks = record {
  blocks =
      (record { kind = InputPad; name = codes "a"; nets = [] }) ∷ (record { kind = InputPad; name = codes "b"; nets = [] })
      ∷ (record { kind = LogicBlock; name = codes "n65"; nets = [] }) ∷ [];
  nets = [];
}

abbrev some_sites : Placement
some_sites = record {
  nx = 3;
  ny = 2;
  sites = (record { x = 0; y = 1; subblk = 0 }) ∷ (record { x = 0; y = 1; subblk = 1 }) ∷ (record { x = 1; y = 1; subblk = 0 }) ∷ [];
}

pub pins : (a : Architecture) → pins_text (placed_with a some_blocks some_sites) some_cut ≡ codes "pin n65 10\npin b 1\n"
unfolding digits pin_line
pins a = refl
