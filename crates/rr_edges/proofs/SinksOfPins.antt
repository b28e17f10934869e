-- An input pin leads to one sink.
use Rattle.std.proofs.Common.{◌≡◌, ℕ, ◌+◌, true, false, inl, inr, List, [], ◌∷◌, length, Option, Some, None, IfSome, IsSome, ◌↔◌, refl, sym, ap, subst, ◌∙◌}
use Rattle.std.specs.Prelude.{slice_get}
use Rattle.std.specs.List.{filter}
use Rattle.std.specs.Option.{option_map}
use Rattle.std.proofs.lemmas.Bool.{cases_Bool, lt-ltb, false≢true}
use Rattle.std.proofs.lemmas.Option.{same_Some}
use Rattle.arch_file.specs.Architecture.{class_count, class_direction}
use Rattle.arch_file.specs.declared.entries.Direction.{Direction}
use Rattle.arch_file.specs.declared.entries.Direction.TheVariants.{Input, Output}
use Rattle.arch_file.specs.declared.entries.Pin.{Pin}
use Rattle.channel_tables.specs.declared.node.Kind.TheVariants.{Sink, Ipin}
use Rattle.channel_tables.specs.declared.node.Node.{Node}
use Rattle.channel_tables.specs.Fabric.{Fabric, IsFabric, numbers_below, is_block}
use Rattle.channel_tables.specs.Pins.{has_direction, classes_of, pins_of}
use Rattle.node_numbers.specs.Nodes.{numbers_at, node_of, node_at, kind_of_node, number_of}
use Rattle.rr_edges.specs.Edges.{successors_of}
use Rattle.node_numbers.specs.Starts.{place_start}
use Rattle.node_numbers.specs.Numbering.{block_numbers}
use Rattle.rr_edges.specs.kept.PinSuccessors.{sink_of_pin, ipin_successors}
use Rattle.rr_edges.specs.kept.Terminals.{sink_beside}
use Rattle.node_numbers.proofs.Capacities.{kept_passes}
use Rattle.node_numbers.proofs.Classes.{class_counted, class_directed, class_placed}
use Rattle.node_numbers.proofs.NumbersAtPlaces.{number_at_place, block_within, if_block, some_pad}
use Rattle.node_numbers.proofs.NodesByPlace.{place_of_node}
use Rattle.rr_edges.proofs.PinSuccessors.{pad_found, ipin_listed}

is_input : (d : Direction) → has_direction Input (Some d) ≡ true → d ≡ Input
is_input Input e = refl
is_input Output e = absurd (false≢true e)

-- a pin that is there and takes signals
record IsInputPin (pins : List Pin) (number : ℕ) : Type 0 where
  pin : Pin
  there : slice_get pins number ≡ Some pin
  input : pin.direction ≡ Input

input_there : (pins : List Pin) (number : ℕ) (found : Option Pin) → slice_get pins number ≡ found
    → has_direction Input (option_map (λ p. p.direction) found) ≡ true → IsInputPin pins number
input_there pins number None there e = absurd (false≢true e)
input_there pins number (Some pin) there e = record { pin = pin; there = there; input = is_input pin.direction e }

input_listed : (f : Fabric) (j number : ℕ) → slice_get (block_numbers f Ipin) j ≡ Some number → IsInputPin f.architecture.pins number
unfolding block_numbers pins_of
input_listed f j number e =
    let pins = f.architecture.pins in
    input_there pins number (slice_get pins number) refl
    (kept_passes (λ p. has_direction Input (option_map (λ q. q.direction) (slice_get pins p))) (numbers_below (length pins)) j number e)

-- the sink of a pin's class
module _ (f : Fabric) (within : IsFabric f) (x y number : ℕ) (input : IsInputPin f.architecture.pins number) (block : is_block f x y ≡ true) where
  abbrev sink_number : ℕ
  sink_number = place_start f Sink x y + length (filter (λ c. has_direction Input (class_direction f.architecture c)) (numbers_below (input.pin).class))

  class_here : slice_get (block_numbers f Sink) (length (filter (λ c. has_direction Input (class_direction f.architecture c)) (numbers_below (input.pin).class))) ≡ Some (input.pin).class
  unfolding block_numbers
  class_here =
      ap (λ d. slice_get (classes_of f.architecture d) (length (filter (λ c. has_direction d (class_direction f.architecture c)) (numbers_below (input.pin).class)))) (sym input.input)
      ∙ class_placed f.architecture number input.pin input.there within.limits

  sink_there : number_of f (node_of Sink x y (input.pin).class) ≡ Some sink_number
  sink_there =
      let inside = block_within f x y block in
      number_at_place f within Sink x y _ (input.pin).class (if_block f Sink x y (input.pin).class refl _ block ∙ class_here) inside.0 inside.1

  sink_alone : sink_of_pin f (slice_get f.architecture.pins number) x y ≡ sink_number ∷ []
  unfolding sink_of_pin
  sink_alone =
      let directed : has_direction Input (class_direction f.architecture (input.pin).class) ≡ true =
      ap (has_direction Input) (class_directed f.architecture number input.pin input.there within.limits ∙ ap Some input.input) in
      let counted = lt-ltb (input.pin).class (class_count f.architecture) (class_counted f.architecture number input.pin input.there) in
      rw (input.there, directed, counted) refl

-- the sink is there, and all to which the node leads
pub record LeadsTo (f : Fabric) (i : ℕ) (found : Option ℕ) : Type 0 where
  pub sink : ℕ
  pub there : found ≡ Some sink
  pub alone : successors_of f i ≡ sink ∷ []

module _ (f : Fabric) (within : IsFabric f) (i : ℕ) (a : Node) (h : node_at f i ≡ Some a) (e : a.kind ≡ Ipin) where
  here : (j : ℕ) × (slice_get (numbers_at f Ipin a.x a.y) j ≡ Some a.number)
  here = let d = place_of_node f i a h in (d.0, ap (λ k. slice_get (numbers_at f k a.x a.y) d.0) (sym e) ∙ d.3)

  at_block : is_block f a.x a.y ≡ true → LeadsTo f i (sink_beside f a)
  unfolding ipin_successors
  at_block block =
      let input = input_listed f here.0 a.number (sym (if_block f Ipin a.x a.y a.number refl here.0 block) ∙ here.1) in
      record {
        sink = sink_number f within a.x a.y a.number input block;
        there = rw (block, input.there) (sink_there f within a.x a.y a.number input block);
        alone = ipin_listed f i a h e ∙ rw block (sink_alone f within a.x a.y a.number input block);
      }

  at_pad : is_block f a.x a.y ≡ false → LeadsTo f i (sink_beside f a)
  unfolding ipin_successors numbers_at
  at_pad none =
      let pad = pad_found f a.x a.y (pins_of f.architecture Input) here.0 a.number none here.1 in
      record {
        sink = place_start f Sink a.x a.y + a.number;
        there = rw none (some_pad f Sink a.x a.y a.number refl within none pad.0 pad.1);
        alone = ipin_listed f i a h e ∙ rw none refl;
      }

  pub leads_to_sink : LeadsTo f i (sink_beside f a)
  leads_to_sink = elim (cases_Bool (is_block f a.x a.y)) [ inl block ↦ at_block block | inr none ↦ at_pad none ]

-- as the look-up of the sink finds it
module _ (f : Fabric) (within : IsFabric f) (i : ℕ) (a : Node) (node : Some a ≡ node_at f i) (kind : Some Ipin ≡ kind_of_node f i) (found : Option ℕ) (e : found ≡ sink_beside f a) where
  lead : LeadsTo f i found
  lead =
      let l = leads_to_sink f within i a (sym node) (same_Some a.kind Ipin (ap (option_map (λ n. n.kind)) node ∙ sym kind)) in
      record { sink = l.sink; there = e ∙ l.there; alone = l.alone }

  pub sink_found : IfSome found (λ sink. successors_of f i ≡ sink ∷ [])
  sink_found = subst (λ o. IfSome o (λ sink. successors_of f i ≡ sink ∷ [])) (sym lead.there) lead.alone

  pub some_sink : IsSome found ↔ (kind_of_node f i ≡ Some Ipin)
  some_sink = ((λ _. sym kind), (λ _. subst IsSome (sym lead.there) refl))
