-- A netlist and a placement that were read, for a device's architecture and array, suit the device.
use Rattle.std.proofs.Common.{◌≡◌, ℕ, ◌+◌, ◌<◌, Bool, true, false, not, ◌&&◌, ◌||◌, List, length, All, Option, Some, None, refl, sym, ap, ◌∙◌, arith, zero-add}
use Rattle.std.specs.Prelude.{◌==◌, nat_le, nat_lt, is_some, slice_get}
use Rattle.std.specs.List.{list_all}
use Rattle.std.proofs.lemmas.Bool.{and_parts, and_from, or_right, eq-eqb, ltb-true}
use Rattle.std.proofs.lemmas.Bool.Decides.{nat_tests}
use Rattle.std.proofs.lemmas.List.Elements.{All-weaker}
use Rattle.std.proofs.lemmas.List.FromFn.{length-range_with_len, get_or-range_with_len}
use Rattle.std.proofs.lemmas.List.Sums.{list_all-from_AllPass}
use Rattle.std.proofs.lemmas.Option.{slice_get-get_or}
use Rattle.arch_file.specs.declared.entries.Direction.{Direction}
use Rattle.arch_file.specs.declared.entries.Direction.TheVariants.{Input, Output}
use Rattle.net_file.specs.declared.terminal.BlockKind.{BlockKind}
use Rattle.net_file.specs.declared.terminal.BlockKind.TheVariants.{InputPad, OutputPad, LogicBlock}
use Rattle.net_file.specs.declared.terminal.Terminal.{Terminal}
use Rattle.net_file.specs.Netlist as netlist
use Rattle.net_file.specs.Netlist.{Block}
use Rattle.net_file.specs.Reads.{ReadsBytes}
use Rattle.net_file.specs.Routed.{is_routed_net}
use Rattle.net_file.proofs.Terminals.{IsPin, IsAtPin, JoinsPins, nets_join_pins}
use Rattle.place_file.specs.declared.site.Site.{Site}
use Rattle.place_file.specs.Placement.{Placement, IsPlaced, is_site, is_within, is_on_perimeter, kind_at, array_of}
use Rattle.channel_tables.specs.declared.node.Kind.{Kind}
use Rattle.channel_tables.specs.declared.node.Kind.TheVariants.{Source, Sink}
use Rattle.rr_graph.specs.Designs.{label_on, terminal_node, has_node, has_nodes, has_size_of, are_on_sites, suits_design}
use Rattle.channel_tables.specs.Fabric.{Fabric, IsFabric, numbers_below, is_block, is_pad}
use Rattle.node_numbers.specs.Nodes.{numbers_at, terminals_at}
use Rattle.channel_tables.specs.Pins.{classes_of}
use Rattle.node_numbers.proofs.Classes.{class_listed}
use Rattle.node_numbers.proofs.NumbersAtPlaces.{number_at_place, block_within, pad_within, number_itself}

-- ---- sites on a device

-- what drives a net stands at a source, of a class of output pins; what takes its signal at a sink,
-- of a class of input pins
abbrev kind_for : Bool → Kind
kind_for true = Source
kind_for false = Sink

abbrev direction_for : Bool → Direction
direction_for true = Output
direction_for false = Input

numbers_for : (f : Fabric) (drives : Bool) (x y : ℕ) → numbers_at f (kind_for drives) x y ≡ terminals_at f x y (classes_of f.architecture (direction_for drives))
unfolding numbers_at
numbers_for f true x y = refl
numbers_for f false x y = refl

pads_beside : (nx ny x y : ℕ) → (((x == 0 || x == nx + 1) && (nat_le 1 y && nat_le y ny)) || ((nat_le 1 x && nat_le x nx) && (y == 0 || y == ny + 1))) ≡ true
    → (((nat_le 1 x && nat_le x nx) && (nat_le 1 y && nat_le y ny)) ≡ false)
    × ((((x == 0 || x == nx + 1) && (nat_le 1 y && nat_le y ny)) || ((y == 0 || y == ny + 1) && (nat_le 1 x && nat_le x nx))) ≡ true)
pads_beside nx ny x y e = (grind (arith, nat_tests), grind (arith, nat_tests))

module _ (f : Fabric) (within : IsFabric f) (placement : Placement) (columns : f.nx ≡ placement.nx) (rows : f.ny ≡ placement.ny) where
  block_there : (s : Site) → is_within (array_of f.architecture.io_rat placement) s ≡ true → is_block f s.x s.y ≡ true
  block_there s e = rw (columns, rows) e

  pad_there : (s : Site) → is_on_perimeter (array_of f.architecture.io_rat placement) s ≡ true → (is_block f s.x s.y ≡ false) × (is_pad f s.x s.y ≡ true)
  pad_there s e = rw (columns, rows) (pads_beside placement.nx placement.ny s.x s.y e)

  -- a number that stands on a site, for a terminal of this class
  record Stands (drives : Bool) (class : Option ℕ) (s : Site) : Type 0 where
    label : ℕ
    place : ℕ
    labelled : label_on (is_block f s.x s.y) class s ≡ Some label
    there : slice_get (numbers_at f (kind_for drives) s.x s.y) place ≡ Some label
    inside : (s.x < f.nx + 2) × (s.y < f.ny + 2)

  at_pad : (drives : Bool) (class : Option ℕ) (s : Site) → class ≡ None → (is_on_perimeter (array_of f.architecture.io_rat placement) s && nat_lt s.subblk f.architecture.io_rat) ≡ true → Stands drives class s
  at_pad drives class s none e =
      let parts = and_parts (is_on_perimeter (array_of f.architecture.io_rat placement) s) (nat_lt s.subblk f.architecture.io_rat) e in
      let pad = pad_there s parts.0 in
      let listed : terminals_at f s.x s.y (classes_of f.architecture (direction_for drives)) ≡ numbers_below f.architecture.io_rat = rw (pad.0, pad.1) refl in
      record {
        label = s.subblk;
        place = s.subblk;
        labelled = rw (pad.0, none) refl;
        there = ap (λ ns. slice_get ns s.subblk) (numbers_for f drives s.x s.y ∙ listed) ∙ number_itself f.architecture.io_rat s.subblk (ltb-true s.subblk f.architecture.io_rat parts.1);
        inside = pad_within f s.x s.y pad.1;
      }

  at_block : (drives : Bool) (class : Option ℕ) (s : Site) → IsPin f.architecture.pins (direction_for drives) LogicBlock class → (is_within (array_of f.architecture.io_rat placement) s && s.subblk == 0) ≡ true → Stands drives class s
  at_block drives class s (p, pin, there, directed, is) e =
      let block = block_there s (and_parts (is_within (array_of f.architecture.io_rat placement) s) (s.subblk == 0) e).0 in
      let listed = class_listed f.architecture p pin there within.limits in
      let numbers : terminals_at f s.x s.y (classes_of f.architecture (direction_for drives)) ≡ classes_of f.architecture pin.direction = rw block (ap (classes_of f.architecture) (sym directed)) in
      record {
        label = pin.class;
        place = listed.0;
        labelled = rw (block, is) refl;
        there = ap (λ ns. slice_get ns listed.0) (numbers_for f drives s.x s.y ∙ numbers) ∙ listed.1;
        inside = block_within f s.x s.y block;
      }

  stands_on : (kind : BlockKind) (drives : Bool) (class : Option ℕ) (s : Site) → IsPin f.architecture.pins (direction_for drives) kind class → is_site (array_of f.architecture.io_rat placement) kind s ≡ true → Stands drives class s
  unfolding is_site
  stands_on InputPad drives class s fits e = at_pad drives class s fits.1 e
  stands_on OutputPad drives class s fits e = at_pad drives class s fits.1 e
  stands_on LogicBlock drives class s fits e = at_block drives class s fits e

  node_there : (drives : Bool) (t : Terminal) (s : Site) → slice_get placement.sites t.block ≡ Some s → Stands drives t.class s → has_node f (kind_for drives) placement t ≡ true
  unfolding terminal_node
  node_there drives t s site h =
      let number = number_at_place f within (kind_for drives) s.x s.y h.place h.label h.there h.inside.0 h.inside.1 in
      rw (site, h.labelled, number) refl

  module _ (blocks : List Block) (placed : IsPlaced f.architecture.io_rat blocks placement) where
    site_there : (b : ℕ) → b < length blocks → (s : Site) × (slice_get placement.sites b ≡ Some s)
    site_there b l = let within : b < length placement.sites = omega (arith, l, placed.all) in (_, slice_get-get_or placement.sites b (record { x = 0; y = 0; subblk = 0 }) within)

    terminal_there : (drives : Bool) (t : Terminal) → IsAtPin f.architecture.pins blocks (direction_for drives) t → has_node f (kind_for drives) placement t ≡ true
    terminal_there drives t h =
        let site = site_there t.block h.there in
        node_there drives t site.0 site.1 (stands_on (kind_at blocks t.block) drives t.class site.0 h.at_pin (placed.fitting t.block site.0 site.1))

    net_there : (net : netlist.Net) → JoinsPins f.architecture.pins blocks net → has_nodes f placement net ≡ true
    net_there net h =
        and_from (has_node f Source placement net.driver) (list_all (has_node f Sink placement) net.sinks) (terminal_there true net.driver h.driver)
        (list_all-from_AllPass (has_node f Sink placement) net.sinks (λ k d l. terminal_there false _ (h.sinks k d l)))

    all_on_sites : are_on_sites placement (length blocks) ≡ true
    all_on_sites =
        list_all-from_AllPass (λ b. is_some (slice_get placement.sites b)) (numbers_below (length blocks))
        (λ k d l.
        let low : k < length blocks = omega (arith, l, length-range_with_len 0 (length blocks)) in
        ap (λ b. is_some (slice_get placement.sites b)) (get_or-range_with_len 0 (length blocks) k d low ∙ zero-add k) ∙ ap is_some (site_there k low).1)

  -- what was read suits the device
  pub read_suits : (bytes : List ℕ) (design : netlist.Netlist) → ReadsBytes f.architecture.pins bytes design → IsPlaced f.architecture.io_rat design.blocks placement → suits_design f design placement ≡ true
  unfolding suits_design
  read_suits bytes design read placed =
      let test : netlist.Net → Bool = λ net. not (is_routed_net net) || has_nodes f placement net in
      let joined = nets_join_pins f.architecture.pins read.lines design read.reads in
      let joins : All (λ net. test net ≡ true) design.nets =
      All-weaker (JoinsPins f.architecture.pins design.blocks) (λ net. test net ≡ true)
      (λ net h. or_right (not (is_routed_net net)) (has_nodes f placement net) (net_there design.blocks placed net h)) design.nets joined in
      and_from (has_size_of f placement) _ (and_from (f.nx == placement.nx) (f.ny == placement.ny) (eq-eqb f.nx placement.nx columns) (eq-eqb f.ny placement.ny rows))
      (and_from (are_on_sites placement (length design.blocks)) (list_all test design.nets) (all_on_sites design.blocks placed) (list_all-from_AllPass test design.nets joins))
