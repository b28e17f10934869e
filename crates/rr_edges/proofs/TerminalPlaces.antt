-- Where sources, sinks and pins stand, and the lists that a loop over a block's numbers gives.
use Rattle.std.proofs.Common.{◌≡◌, ℕ, ◌+◌, ◌<◌, ◌≤◌, zero, suc, Bool, true, false, cond, List, [], ◌∷◌, Some, None, refl, sym, ap, ◌∙◌, arith}
use Rattle.std.specs.Prelude.{◌==◌, ◌&&◌, nat_lt, slice_get}
use Rattle.std.proofs.lemmas.Option.{none-some, same_Some}
use Rattle.std.proofs.Math.Bool.{and-true}
use Rattle.arch_file.specs.Architecture.{class_count, class_direction}
use Rattle.arch_file.specs.declared.entries.Direction.TheVariants.{Input}
use Rattle.arch_file.specs.declared.entries.Pin.{Pin}
use Rattle.channel_tables.specs.declared.node.Kind.TheVariants.{Sink, Opin}
use Rattle.channel_tables.specs.declared.node.Node.{Node}
use Rattle.channel_tables.specs.Fabric.{Fabric, IsFabric}
use Rattle.channel_tables.specs.Pins.{has_direction, has_class, when, classes_of}
use Rattle.node_numbers.specs.Nodes.{numbers_at, node_at}
use Rattle.channel_tables.specs.Picks.{picks}
use Rattle.node_numbers.specs.Starts.{place_start}
use Rattle.node_numbers.specs.Numbering.{is_terminal, block_numbers}
use Rattle.rr_edges.specs.kept.PinSuccessors.{pins_of_source, sink_of_pin}
use Rattle.rr_edges.specs.kept.Terminals.{IsTerminal}
use Rattle.channel_tables.proofs.Rising.{Rises}
use Rattle.node_numbers.proofs.Order.{numbers-rise, number_limit, number_limit_small}
use Rattle.channel_tables.proofs.Picks.{picks_agree, picks_filtered}
use Rattle.node_numbers.proofs.NodesByPlace.{place_of_node}
use Rattle.node_numbers.proofs.PlaceStarts.{numbers_of_terminal}
use Rattle.rr_edges.proofs.PinSuccessors.{pad_found}

below_limit : (lo hi : ℕ) (ns : List ℕ) (j n : ℕ) → Rises lo hi ns → slice_get ns j ≡ Some n → n < hi
below_limit lo hi [] j n r h = absurd (none-some n h)
below_limit lo hi (m ∷ ns) zero n r h = omega (arith, same_Some m n h, above (m + 1) hi ns r.1)
  where
    above : (lo hi : ℕ) (ns : List ℕ) → Rises lo hi ns → lo ≤ hi
    above lo hi [] l = l
    above lo hi (n ∷ ns) h = omega (arith, h.0, above (n + 1) hi ns h.1)
below_limit lo hi (m ∷ ns) (suc j) n r h = below_limit (m + 1) hi ns j n r.1 h

pub terminal_node : (f : Fabric) → IsFabric f → (i : ℕ) (a : Node) → node_at f i ≡ Some a → is_terminal a.kind ≡ true → IsTerminal f a.x a.y a.number
terminal_node f within i a h e =
    let d = place_of_node f i a h in
    let at = ap (λ ns. slice_get ns d.0) (sym (numbers_of_terminal f a.kind a.x a.y e)) ∙ d.3 in
    record {
      column = omega (arith, d.1);
      row = omega (arith, d.2);
      small = omega (arith, below_limit 0 (number_limit a.kind) (numbers_at f a.kind a.x a.y) d.0 a.number (numbers-rise f within a.kind a.x a.y) d.3, number_limit_small a.kind);
      around = λ none. (pad_found f a.x a.y (block_numbers f a.kind) d.0 a.number none at).0;
    }

-- ---- the sink of a class, found among those of the block
wanted : (b l : Bool) (n : ℕ) → when (b && l) n ≡ cond (b && (l && true)) (n ∷ []) []
wanted true true n = refl
wanted true false n = refl
wanted false true n = refl
wanted false false n = refl

pub sink_of_class :
    (f : Fabric) (p : Pin) (x y : ℕ) → sink_of_pin f (Some p) x y ≡ picks (λ c. c == p.class) (place_start f Sink x y) (block_numbers f Sink)
unfolding sink_of_pin block_numbers classes_of
sink_of_class f p x y =
    let is_input : ℕ → Bool = λ c. has_direction Input (class_direction f.architecture c) in
    wanted (is_input p.class) (nat_lt p.class (class_count f.architecture)) _
    ∙ sym (picks_filtered is_input true p.class (place_start f Sink x y) (class_count f.architecture))
    ∙ picks_agree (λ c. (c == p.class) && true) (λ c. c == p.class) (λ c. and-true (c == p.class)) (place_start f Sink x y) (classes_of f.architecture Input)

pub no_sink_of_pin : (f : Fabric) (x y : ℕ) → sink_of_pin f None x y ≡ []
unfolding sink_of_pin
no_sink_of_pin f x y = refl

pub source_of_block : (f : Fabric) (x y class : ℕ) → pins_of_source f x y class ≡ picks (λ p. has_class (slice_get f.architecture.pins p) class) (place_start f Opin x y) (block_numbers f Opin)
unfolding pins_of_source block_numbers
source_of_block f x y class = refl
