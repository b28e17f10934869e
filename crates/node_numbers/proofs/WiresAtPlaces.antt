-- The wires that stand at a place.
use Rattle.std.proofs.Common.{◌≡◌, ℕ, ◌<◌, ◌≤◌, Bool, true, false, cond, List, [], Some, refl, sym, subst, ap, ◌∙◌, arith}
use Rattle.std.specs.Prelude.{◌&&◌, nat_le, slice_get}
use Rattle.std.specs.List.{filter, All}
use Rattle.std.proofs.lemmas.Bool.{and_parts, and_from, leb-true}
use Rattle.std.proofs.lemmas.Option.{none-some, slice_get_within, get_or_from_slice_get}
use Rattle.std.proofs.lemmas.List.Elements.{All-filter, filter_passes}
use Rattle.std.proofs.lemmas.List.FromFn.{length-range_with_len, get_or-range_with_len}
use Rattle.channel_tables.specs.declared.node.Kind.TheVariants.{Chanx, Chany}
use Rattle.channel_tables.specs.declared.node.Node.{Node}
use Rattle.channel_tables.specs.Fabric.{Fabric, numbers_below, is_between}
use Rattle.channel_tables.specs.Wires.{tracks_in, begins}
use Rattle.node_numbers.specs.Nodes.{numbers_at, node_at}
use Rattle.node_numbers.proofs.NodesByPlace.{place_of_node}
use Rattle.channel_tables.proofs.TrackWires.{beginning, IsBeginning}

kept_below : (test : ℕ → Bool) (m j t : ℕ) → slice_get (filter test (numbers_below m)) j ≡ Some t → (test t ≡ true) × (t < m)
kept_below test m j t h =
    let kept = filter test (numbers_below m) in
    let read = get_or_from_slice_get kept j t 0 h in
    let inside = slice_get_within kept j t h in
    let size = length-range_with_len 0 m in
    let all : All (λ k. k < m) (numbers_below m) = (λ k d l. omega (arith, get_or-range_with_len 0 m k d (omega arith))) in
    let under = All-filter test (λ k. k < m) (numbers_below m) all j 0 inside in
    (subst (λ k. test k ≡ true) read (filter_passes test (numbers_below m) j 0 inside), subst (λ k. k < m) read under)

within_place : (b : Bool) (ts : List ℕ) (j t : ℕ) → slice_get (cond b ts []) j ≡ Some t → (b ≡ true) × (slice_get ts j ≡ Some t)
within_place true ts j t h = (refl, h)
within_place false ts j t h = absurd (none-some t h)

-- a node of a channel is a wire that begins at its place
module _ (f : Fabric) (i : ℕ) (a : Node) (h : node_at f i ≡ Some a) where
  pub row_wire_at : a.kind ≡ Chanx → IsBeginning f f.nx a.number a.x × (a.y ≤ f.ny) × (a.number < tracks_in f.mode f.width)
  unfolding numbers_at
  row_wire_at e =
      let placed = place_of_node f i a h in
      let j = placed.0 in
      let read = ap (λ k. slice_get (numbers_at f k a.x a.y) j) (sym e) ∙ placed.3 in
      let at = within_place (is_between 1 f.nx a.x && nat_le a.y f.ny) _ j a.number read in
      let kept = kept_below (λ s. begins f f.nx s a.x) (tracks_in f.mode f.width) j a.number at.1 in
      let place = and_parts (is_between 1 f.nx a.x) (nat_le a.y f.ny) at.0 in
      let here = and_from (is_between 1 f.nx a.x) (begins f f.nx a.number a.x) place.0 kept.0 in
      (beginning f f.nx a.number a.x here, leb-true a.y f.ny place.1, kept.1)

  pub column_wire_at : a.kind ≡ Chany → IsBeginning f f.ny a.number a.y × (a.x ≤ f.nx) × (a.number < tracks_in f.mode f.width)
  unfolding numbers_at
  column_wire_at e =
      let placed = place_of_node f i a h in
      let j = placed.0 in
      let read = ap (λ k. slice_get (numbers_at f k a.x a.y) j) (sym e) ∙ placed.3 in
      let at = within_place (nat_le a.x f.nx && is_between 1 f.ny a.y) _ j a.number read in
      let kept = kept_below (λ s. begins f f.ny s a.y) (tracks_in f.mode f.width) j a.number at.1 in
      let place = and_parts (nat_le a.x f.nx) (is_between 1 f.ny a.y) at.0 in
      let here = and_from (is_between 1 f.ny a.y) (begins f f.ny a.number a.y) place.1 kept.0 in
      (beginning f f.ny a.number a.y here, leb-true a.x f.nx place.0, kept.1)
