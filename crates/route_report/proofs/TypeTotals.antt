-- What all types of wire are together.
use Rattle.std.proofs.Common.{◌≡◌, ℕ, ◌+◌, ◌-◌, ◌*◌, ◌<◌, ◌≤◌, ◌==◌, zero, suc, inl, inr, Bool, true, false, if◌then◌else◌, List, [], ◌∷◌, length, take, Option, Some, None, refl, sym, ap, ◌∙◌, subst, arith}
use Rattle.std.specs.Prelude.{◌&&◌, nat_lt}
use Rattle.std.specs.List.{sum_by, position_or_len}
use Rattle.std.specs.Option.{option_map, option_map_or}
use Rattle.std.proofs.lemmas.Bool.{cases_lt, lt-ltb, eqb-false, both_ways}
use Rattle.std.proofs.lemmas.List.{take_all}
use Rattle.std.proofs.lemmas.List.Sums.{fails_before_first, get_or-le-sum_by}
use Rattle.std.proofs.lemmas.List.FromFn.{get_or-range_with_len}
use Rattle.std.proofs.Math.Bool.{and-false, and-true}
use native.Mathlib.Nat.{mul-lt-mul_of_pos_right}
use Rattle.arch_file.specs.declared.entries.Segment.{Segment}
use Rattle.routing_problem.specs.node.Kind.{Kind}
use Rattle.routing_problem.specs.node.Kind.TheVariants.{Source, Sink, Opin, Ipin, Chanx, Chany}
use Rattle.routing_problem.specs.node.Node.{Node}
use Rattle.routing_problem.specs.Fabric.{Fabric, IsFabric, numbers_below}
use Rattle.routing_problem.specs.Wires.{reach_of, total_frequency, weight_in, weight_of_first, reaches, track_type, type_of}
use Rattle.routing_problem.specs.Nodes.{node_at, node_count_of, is_wire, is_wire_at, span_of, wire_in}
use Rattle.routing_problem.proofs.TrackCounts.{tracks_within}
use Rattle.routing_problem.proofs.WiresAtPlaces.{row_wire_at, column_wire_at}
use Rattle.route_report.specs.Covered.{is_used}
use Rattle.route_report.specs.Figures.{wires_used, places_used}
use Rattle.route_report.specs.Wirelength.{places_of_wire, places_at}
use Rattle.route_report.specs.WireTypes.{has_type, has_type_used, wire_type_of, wire_types_of}
use Rattle.route_report.proofs.Totals.{sums_alike}
use Rattle.route_report.proofs.ChannelTotals.{sums_zero, swapped, one_picked, sum_of_images}

-- ---- each track has a type
ones : (ss : List Segment) → 1 ≤ length ss → 1 ≤ sum_by (λ (s : Segment). 1) ss
ones [] l = absurd (omega (arith, l))
ones (s ∷ ss) l = get_or-le-sum_by (λ (s : Segment). 1) (s ∷ ss) 0 s (omega arith)

positive : (n : ℕ) → (n ≡ 0 → ⊥) → 1 ≤ n
positive zero apart = absurd (apart refl)
positive (suc n) apart = omega arith

weighted : (segments : List Segment) → 1 ≤ length segments → (b : Bool) → (total_frequency segments == 0) ≡ b → 1 ≤ sum_by (λ s. if b then 1 else s.frequency) segments
weighted segments some true e = ones segments some
weighted segments some false e = positive (total_frequency segments) (eqb-false (total_frequency segments) 0 e)

some_weight : (segments : List Segment) → 1 ≤ length segments → 1 ≤ sum_by (weight_in segments) segments
some_weight segments some = weighted segments some (total_frequency segments == 0) refl

reached_last : (segments : List Segment) (width t : ℕ) → 1 ≤ length segments → t < width → reaches segments width t (length segments - 1) ≡ true
unfolding weight_of_first
reached_last segments width t some low =
    let n = length segments in
    let last : n - 1 + 1 ≡ n = omega (arith, some) in
    let weight = sum_by (weight_in segments) (take n segments) in
    let whole : 1 ≤ weight = subst (λ ss. 1 ≤ sum_by (weight_in segments) ss) (sym (take_all n segments (omega arith))) (some_weight segments some) in
    let less : (2 * t + 1) * weight < 2 * width * weight = mul-lt-mul_of_pos_right (omega (arith, low)) whole in
    ap (λ k. nat_lt ((2 * t + 1) * weight) (2 * width * sum_by (weight_in segments) (take k segments))) last ∙ lt-ltb _ _ less

pub typed : (f : Fabric) → IsFabric f → (t : ℕ) → t < f.width → track_type f t < length f.architecture.segments
unfolding type_of
typed f within t low =
    let segments = f.architecture.segments in
    let n = length segments in
    let some : 1 ≤ n = within.limits.some_segments in
    let test = reaches segments f.width t in
    elim (cases_lt (position_or_len test (numbers_below n)) n) [
      | inl less ↦ less
      | inr past ↦ (
          let fails = fails_before_first test (numbers_below n) (n - 1) 0 (omega (arith, past, some)) in
          let is = get_or-range_with_len 0 n (n - 1) 0 (omega (arith, some)) in
          let place : 0 + (n - 1) ≡ n - 1 = omega arith in
          absurd (both_ways (test (n - 1)) (ap test (sym (is ∙ place)) ∙ fails) (reached_last segments f.width t some low)))
    ]

-- ---- each wire has one type
module _ (f : Fabric) (within : IsFabric f) (a : ℕ) where
  abbrev kinds : ℕ
  kinds = length f.architecture.segments

  low_track : (n : Node) → node_at f a ≡ Some n → (k : Kind) → n.kind ≡ k → is_wire k ≡ true → n.number < f.width
  low_track n h Source e wire = absurd (both_ways false refl wire)
  low_track n h Sink e wire = absurd (both_ways false refl wire)
  low_track n h Opin e wire = absurd (both_ways false refl wire)
  low_track n h Ipin e wire = absurd (both_ways false refl wire)
  low_track n h Chanx e wire =
      let low = (row_wire_at f a n h e).2 in
      let few = tracks_within f.mode f.width within.some_tracks in
      omega (arith, low, few)
  low_track n h Chany e wire =
      let low = (column_wire_at f a n h e).2 in
      let few = tracks_within f.mode f.width within.some_tracks in
      omega (arith, low, few)

  by_wire : (n : Node) (x : ℕ) → node_at f a ≡ Some n → (b : Bool) → is_wire n.kind ≡ b → sum_by (λ s. if b && track_type f n.number == s then x else 0) (numbers_below kinds) ≡ (if b then x else 0)
  by_wire n x h true wire = one_picked (track_type f n.number) kinds x (typed f within n.number (low_track n h n.kind refl wire))
  by_wire n x h false wire = sums_zero kinds

  by_node : (o : Option Node) (x : ℕ) → node_at f a ≡ o →
      sum_by (λ s. if option_map_or (λ n. is_wire n.kind && track_type f n.number == s) o false then x else 0) (numbers_below kinds)
      ≡ (if option_map_or is_wire (option_map (λ n. n.kind) o) false then x else 0)
  by_node None x h = sums_zero kinds
  by_node (Some n) x h = by_wire n x h (is_wire n.kind) refl

  of_one_type : (x : ℕ) (used : Bool) → sum_by (λ s. if has_type f s a && used then x else 0) (numbers_below kinds) ≡ (if is_wire_at f a && used then x else 0)
  of_one_type x true =
      sums_alike (λ s. if has_type f s a && true then x else 0) (λ s. if has_type f s a then x else 0) kinds (λ s l. ap (λ b. if b then x else 0) (and-true (has_type f s a)))
      ∙ by_node (node_at f a) x refl ∙ ap (λ b. if b then x else 0) (sym (and-true (is_wire_at f a)))
  of_one_type x false =
      sums_alike (λ s. if has_type f s a && false then x else 0) (λ s. 0) kinds (λ s l. ap (λ b. if b then x else 0) (and-false (has_type f s a)))
      ∙ sums_zero kinds ∙ ap (λ b. if b then x else 0) (sym (and-false (is_wire_at f a)))

-- what is no wire has no places
no_wire : (f : Fabric) (o : Option Node) → option_map_or is_wire (option_map (λ n. n.kind) o) false ≡ false → places_of_wire (wire_in f o) ≡ 0
unfolding wire_in
no_wire f None e = refl
no_wire f (Some n) e = ap (λ b. places_of_wire (if b then Some (n.kind, span_of f n, reach_of f n.number) else None)) e

places_of_used : (f : Fabric) (a : ℕ) (w used : Bool) → is_wire_at f a ≡ w → (if w && used then places_at f a else 0) ≡ (if used then places_at f a else 0)
unfolding places_at
places_of_used f a true used e = refl
places_of_used f a false true e = sym (no_wire f (node_at f a) e)
places_of_used f a false false e = refl

module _ (f : Fabric) (within : IsFabric f) (uses : List ℕ) where
  together : (x : ℕ → ℕ) → sum_by (λ s. sum_by (λ a. if has_type_used f uses s a then x a else 0) (numbers_below (node_count_of f))) (numbers_below (length f.architecture.segments))
      ≡ sum_by (λ a. if is_wire_at f a && is_used uses a then x a else 0) (numbers_below (node_count_of f))
  together x =
      swapped (λ s a. if has_type_used f uses s a then x a else 0) (length f.architecture.segments) (node_count_of f)
      ∙ sums_alike (λ a. sum_by (λ s. if has_type_used f uses s a then x a else 0) (numbers_below (length f.architecture.segments)))
      (λ a. if is_wire_at f a && is_used uses a then x a else 0) (node_count_of f)
      (λ a l. of_one_type f within a (x a) (is_used uses a))

  pub wires_together : sum_by (λ t. t.wires_used) (wire_types_of f uses) ≡ wires_used f uses
  unfolding wire_types_of wire_type_of wires_used
  wires_together =
      sum_of_images (λ t. t.wires_used) (wire_type_of f uses) (numbers_below (length f.architecture.segments)) ∙ together (λ a. 1)

  pub places_together : sum_by (λ t. t.places_used) (wire_types_of f uses) ≡ places_used f uses
  unfolding wire_types_of wire_type_of places_used
  places_together =
      sum_of_images (λ t. t.places_used) (wire_type_of f uses) (numbers_below (length f.architecture.segments)) ∙ together (places_at f)
      ∙ sums_alike (λ a. if is_wire_at f a && is_used uses a then places_at f a else 0) (λ a. if is_used uses a then places_at f a else 0) (node_count_of f)
      (λ a l. places_of_used f a (is_wire_at f a) (is_used uses a) refl)
