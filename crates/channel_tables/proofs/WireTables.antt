-- The tables of a channel, built place by place.
use Rattle.std.proofs.Common.{◌≡◌, ℕ, ◌+◌, ◌-◌, ◌*◌, ◌<◌, ◌≤◌, Bool, true, false, inl, inr, List, [], ◌++◌, length, get_or, refl, sym, ap, ◌∙◌, subst, arith, All, map, Some, None}
use Rattle.std.specs.Prelude.{if◌then◌else◌, ◌==◌, slice_get, Option}
use Rattle.std.specs.List.{filter, flat_map}
use Rattle.std.proofs.lemmas.List.Elements.{All-get_or, All-map}
use Rattle.std.proofs.lemmas.Bool.{cases_lt, cases_Bool, eq-eqb, eqb-true, false≢true, false_from_ne_true}
use Rattle.std.proofs.lemmas.Option.{slice_get_within, get_or_from_slice_get, slice_get-get_or}
use Rattle.channel_tables.proofs.TrackWires.{first_only, first_of-is, first_of_itself, first_begins}
use Rattle.channel_tables.proofs.Ranges.{length_below, get_below, count_kept, count_skipped}
use Rattle.channel_tables.proofs.Windows.{slice_get-append_left, slice_get-flat_map}
use Rattle.channel_tables.proofs.Lengths.{length_next, length_even, length_times}
use Rattle.channel_tables.proofs.Rising.{length-rises, rises-if, rises-filter, rises-below, beginnings-rise, length-joined}
use Rattle.arch_file.specs.Architecture.{IsSegmentLength}
use Rattle.arch_file.specs.declared.entries.Segment.{Segment}
use Rattle.arch_file.specs.declared.entries.SegmentLength.{SegmentLength}
use Rattle.arch_file.specs.declared.entries.SegmentLength.TheVariants.{Places, Longline}
use Rattle.channel_tables.specs.declared.node.Mode.{Mode}
use Rattle.channel_tables.specs.declared.node.Mode.TheVariants.{Detailed, Global}
use Rattle.channel_tables.specs.Fabric.{Fabric, IsFabric, numbers_below, is_between}
use Rattle.channel_tables.specs.Wires.{tracks_in, places_of_length, places_of_type, length_by, length_of, type_of, begins, last_of, beginnings_at}
use Rattle.channel_tables.specs.Channels.{first_of, starting_at, wires_before, wire_number, wire_at, beginning_of, beginnings_of}
use Rattle.channel_tables.specs.declared.channel.Stagger.{Stagger}
use Rattle.channel_tables.specs.declared.channel.Wire.{Wire}
use Rattle.channel_tables.specs.kept.Tables.{wires_at, stagger_of}
use Rattle.std.proofs.lemmas.List.{length-map}

-- ---- wires have some length
some_places : (n : ℕ) (l : SegmentLength) → 1 ≤ n → IsSegmentLength l → 1 ≤ places_of_length n l
some_places n (Places k) m h = h.0
some_places n Longline m h = m

some_of_type : (n i : ℕ) (segments : List Segment) (o : Option Segment) → slice_get segments i ≡ o → All (λ s. IsSegmentLength s.length) segments → 1 ≤ n → 1 ≤ places_of_type n o
some_of_type n i segments None e h m = omega arith
some_of_type n i segments (Some s) e h m =
    let here : get_or segments i s ≡ s = get_or_from_slice_get segments i s s e in
    let fits = All-get_or (λ (t : Segment). IsSegmentLength t.length) segments i s (slice_get_within segments i s e) h in
    some_places n s.length m (subst (λ (t : Segment). IsSegmentLength t.length) here fits)

some_by : (mode : Mode) (segments : List Segment) (width n t : ℕ) → All (λ s. IsSegmentLength s.length) segments → 1 ≤ n → 1 ≤ length_by mode segments width n t
some_by Detailed segments width n t h m = some_of_type n (type_of segments width t) segments _ refl h m
some_by Global segments width n t h m = omega arith

pub some_length : (f : Fabric) (n t : ℕ) → IsFabric f → 1 ≤ n → 1 ≤ length_of f n t
unfolding length_of
some_length f n t l m = some_by f.mode f.architecture.segments f.width n t l.limits.segment_lengths m

pub staggers_long : (f : Fabric) (n : ℕ) → IsFabric f → 1 ≤ n → All (λ (s : Stagger). 1 ≤ s.length) (map (stagger_of f n) (numbers_below (tracks_in f.mode f.width)))
staggers_long f n l m = All-map (λ (s : Stagger). 1 ≤ s.length) (stagger_of f n) (numbers_below (tracks_in f.mode f.width)) (λ k d o. some_length f n _ l m)

-- ---- which wire runs through a place
-- the next place of the same wire
first_before : (f : Fabric) (n t p : ℕ) → 1 ≤ p → begins f n t (p + 1) ≡ false → first_of f n t (p + 1) ≡ first_of f n t p
first_before f n t p l e =
    let here = first_of-is f n t p l in
    sym (first_only (begins f n t) (p + 1) (first_of f n t (p + 1)) (first_of f n t p) (first_of-is f n t (p + 1) (omega arith)) here.begins here.from (omega (arith, here.upto)) (λ k m o. elim (cases_lt p k) [
      | inl past ↦ let same : k ≡ p + 1 = omega arith in ap (begins f n t) same ∙ e
      | inr upto ↦ here.none k m upto
    ]))

-- the wire through the next place is a new one, or the same
pub wire_here : (f : Fabric) (n p t : ℕ) → 1 ≤ p → p ≤ n → begins f n t p ≡ true → wire_at f n p t ≡ record { first = p; last = last_of f n t p; number = wire_number f n p t }
wire_here f n p t l m e = rw (first_of_itself f n t p (record { from = l; upto = m; begins_here = e })) refl

pub wire_before : (f : Fabric) (n p t : ℕ) → 1 ≤ p → begins f n t (p + 1) ≡ false → wire_at f n (p + 1) t ≡ wire_at f n p t
wire_before f n p t l e = rw (first_before f n t p l e) refl

pub begins_by_first : (f : Fabric) (n p t : ℕ) → 1 ≤ p → p ≤ n → (first_of f n t p == p) ≡ begins f n t p
begins_by_first f n p t l m = elim (cases_Bool (begins f n t p)) [
  | inl e ↦ eq-eqb (first_of f n t p) p (first_of_itself f n t p (record { from = l; upto = m; begins_here = e })) ∙ sym e
  | inr e ↦ false_from_ne_true (first_of f n t p == p) (λ same. let there = (first_begins f n t p l m).begins_here in
      false≢true (sym e ∙ ap (begins f n t) (sym (eqb-true _ _ same)) ∙ there)) ∙ sym e
]

-- ---- how many wires begin before a place
few_starting : (f : Fabric) (n p : ℕ) → IsFabric f → length (starting_at f n p) ≤ 256
few_starting f n p l =
    omega (arith, length-rises 0 256 (starting_at f n p) (rises-if (is_between 1 n p) 256 (beginnings_at f n p) [] (beginnings-rise f n p l) (omega arith)))

pub few_before : (f : Fabric) (n p : ℕ) → IsFabric f → wires_before f n p ≤ p * 256
unfolding wires_before
few_before f n p l = length-joined (starting_at f n) 256 (λ i. few_starting f n i l) 0 p

pub before_none : (f : Fabric) (n : ℕ) → wires_before f n 0 ≡ 0
unfolding wires_before
before_none f n = refl

pub before_next : (f : Fabric) (n p : ℕ) → wires_before f n (p + 1) ≡ wires_before f n p + length (starting_at f n p)
unfolding wires_before
before_next f n p = length_next (starting_at f n) p

pub count_next : (p : ℕ → Bool) (i : ℕ) → length (filter p (numbers_below (i + 1))) ≡ length (filter p (numbers_below i)) + (if p i then 1 else 0)
count_next p i = elim (cases_Bool (p i)) [
  | inl t ↦ rw t (count_kept p i t)
  | inr t ↦ rw t (omega (arith, count_skipped p i t))
]

pub first_number : (f : Fabric) (n p : ℕ) → wire_number f n p 0 ≡ wires_before f n p
unfolding wire_number
first_number f n p = omega arith

pub number_next : (f : Fabric) (n p t : ℕ) → wire_number f n p (t + 1) ≡ wire_number f n p t + (if begins f n t p then 1 else 0)
unfolding wire_number
number_next f n p t = omega (arith, count_next (λ s. begins f n s p) t)

few_below : (p : ℕ → Bool) (n : ℕ) → length (filter p (numbers_below n)) ≤ n
few_below p n = omega (arith, length-rises 0 n (filter p (numbers_below n)) (rises-filter p 0 n (numbers_below n) (rises-below n n (omega arith))))

pub small_number : (f : Fabric) (n p t : ℕ) → IsFabric f → p ≤ 100 → t ≤ 256 → wire_number f n p t < 65536
unfolding wire_number
small_number f n p t l m o = omega (arith, few_before f n p l, few_below (λ s. begins f n s p) t)

-- ---- the wires through each place, one place after another
wires_at-length : (f : Fabric) (n p : ℕ) → length (wires_at f n p) ≡ tracks_in f.mode f.width
wires_at-length f n p = length_below (wire_at f n p) (tracks_in f.mode f.width)

pub wire_read : (f : Fabric) (n m k t : ℕ) → k < m → t < tracks_in f.mode f.width
    → slice_get (flat_map (λ i. wires_at f n (i + 1)) (numbers_below m)) (k * tracks_in f.mode f.width + t) ≡ Some (wire_at f n (k + 1) t)
wire_read f n m k t l o =
    let rows : ℕ → List Wire = λ i. wires_at f n (i + 1) in
    let d = wire_at f n (k + 1) t in
    let here : slice_get (wires_at f n (k + 1)) t ≡ Some d =
    slice_get-get_or (wires_at f n (k + 1)) t d (omega (arith, wires_at-length f n (k + 1))) ∙ ap Some (get_below (wire_at f n (k + 1)) (tracks_in f.mode f.width) t d o) in
    let before : length (flat_map rows (numbers_below k)) ≡ k * tracks_in f.mode f.width =
    length_even rows (tracks_in f.mode f.width) k k (λ i _. wires_at-length f n (i + 1)) (omega arith) in
    ap (λ i. slice_get (flat_map rows (numbers_below m)) (i + t)) (sym before) ∙ slice_get-flat_map rows m k t d l here

pub wire_stands : (f : Fabric) (n p t : ℕ) → 1 ≤ p → p ≤ n → t < tracks_in f.mode f.width
    → slice_get (flat_map (λ i. wires_at f n (i + 1)) (numbers_below n)) ((p - 1) * tracks_in f.mode f.width + t) ≡ Some (wire_at f n p t)
wire_stands f n p t l m o =
    let place : p - 1 + 1 ≡ p = omega arith in
    wire_read f n n (p - 1) t (omega arith) o ∙ ap (λ q. Some (wire_at f n q t)) place

-- the wire of the track through the place before
pub wire_read_before : (f : Fabric) (n p t : ℕ) (xs ys : List Wire) → 2 ≤ p → t < tracks_in f.mode f.width → xs ≡ flat_map (λ i. wires_at f n (i + 1)) (numbers_below (p - 1))
    → slice_get (xs ++ ys) ((p - 2) * tracks_in f.mode f.width + t) ≡ Some (wire_at f n (p - 1) t)
wire_read_before f n p t xs ys l o e =
    let place : p - 2 + 1 ≡ p - 1 = omega arith in
    slice_get-append_left xs ys _ (wire_at f n (p - 1) t)
    (ap (λ ws. slice_get ws ((p - 2) * tracks_in f.mode f.width + t)) e ∙ wire_read f n (p - 1) (p - 2) t (omega arith) o ∙ ap (λ q. Some (wire_at f n q t)) place)

-- ---- where wires begin
module _ (f : Fabric) (n : ℕ) where
  pub before_is : (p : ℕ) → length (flat_map (λ q. map (beginning_of q) (starting_at f n q)) (numbers_below p)) ≡ wires_before f n p
  unfolding wires_before
  before_is p = length_times (λ q. map (beginning_of q) (starting_at f n q)) (starting_at f n) 1 p (λ q. let e = length-map (starting_at f n q) (beginning_of q) in omega (arith, e)) ∙ omega arith

  pub beginnings_length : length (beginnings_of f n) ≡ wires_before f n (n + 1)
  unfolding beginnings_of
  beginnings_length = before_is (n + 1)
