-- How full channels are.
use Rattle.std.proofs.Common.{◌≡◌, ◌≢◌, ℕ, ◌+◌, ◌-◌, ◌^◌, ◌<◌, ◌≤◌, ◌==◌, inl, inr, Bool, true, false, if◌then◌else◌, All, List, [], ◌∷◌, ◌++◌, length, get_or, set, map, max, replicate, Option, Some, None, refl, sym, ap, ap₂, ◌∙◌, subst, arith}
use Rattle.std.specs.Prelude.{◌&&◌, ◌||◌, nat_le, nat_lt}
use Rattle.std.proofs.lemmas.Bool.{cases_eq, cases_lt, eq-eqb, ne_eqb}
use Rattle.std.proofs.lemmas.Bool.Decides.{nat_tests}
use Rattle.std.proofs.lemmas.List.{get_or-set_same, get_or-set_other, length-set, get_or_past, same_lists, get_or_default, replicate_more, get_or-replicate, length-replicate, append-nil}
use Rattle.std.specs.Option.{option_map_or}
use Rattle.std.proofs.lemmas.List.Sums.{sum_by-le}
use Rattle.std.proofs.lemmas.List.FromFn.{length-range_with_len}
use Rattle.routing_problem.specs.node.Kind.{Kind}
use Rattle.routing_problem.specs.node.Kind.TheVariants.{Source, Sink, Opin, Ipin, Chanx, Chany}
use Rattle.routing_problem.specs.node.Mode.{Mode}
use Rattle.routing_problem.specs.node.Mode.TheVariants.{Detailed, Global}
use Rattle.routing_problem.specs.node.Node.{Node}
use Rattle.routing_problem.specs.Wires.{Place, runs_by, runs_through, reach_of}
use Rattle.routing_problem.specs.Nodes.{node_at, node_count_of, is_wire, span_by, wire_in}
use Rattle.routing_problem.proofs.Order.{node_count_below}
use Rattle.routing_problem.proofs.Ranges.{mapped_more, sum_next, length_below, get_below}
use Rattle.route_report.specs.Channels.{Channel, occupied_by, runs_at, occupies, occupancy_at, place_in, occupancies_in, channel_with, channels_along}
use Rattle.routing_problem.specs.Fabric.{Fabric, IsFabric, numbers_below}
use Rattle.route_report.specs.declared.occupancy.Stretch.{Stretch}
use Rattle.route_report.specs.kept.Channels.{stretch_in, goes_through, along, across, Adds, AddsAll, IsOccupied, AreSmall, numbered}

-- ---- one place
pub adds_one : (places : List ℕ) (place by : ℕ) → place < length places → Adds places (λ m. if m == place then by else 0) (set places place (get_or places place 0 + by))
adds_one places place by l = record {
  size = length-set places place (get_or places place 0 + by);
  each = λ m low. elim (cases_eq m place) [
    | inl same ↦ (
        let here = get_or-set_same places place (get_or places place 0 + by) 0 l in
        ap (λ k. get_or (set places place (get_or places place 0 + by)) k 0) same ∙ here
        ∙ sym (ap₂ (λ k b. get_or places k 0 + (if b then by else 0)) same (eq-eqb m place same)))
    | inr apart ↦ (
        let kept = get_or-set_other places place m (get_or places place 0 + by) 0 apart in
        let none : (if m == place then by else 0) ≡ 0 = ap (λ b. if b then by else 0) (ne_eqb m place apart) in
        omega (arith, kept, none))
  ];
}

pub adds_none : (places : List ℕ) (place by : ℕ) → length places ≤ place → Adds places (λ m. if m == place then by else 0) places
adds_none places place by l = record {
  size = refl;
  each = λ m low.
      let apart : m ≢ place = λ e. absurd (omega (arith, l, low, e)) in
      let none : (if m == place then by else 0) ≡ 0 = ap (λ b. if b then by else 0) (ne_eqb m place apart) in
      omega (arith, none);
}

-- ---- a stretch, place by place
-- what was added before a place was reached
abbrev pub reached : Stretch → (by place m : ℕ) → ℕ
reached s by place m = if nat_le s.first (m + 1) && nat_lt m place then by else 0

adds_as : (old new : List ℕ) (f g : ℕ → ℕ) → ((m : ℕ) → f m ≡ g m) → Adds old f new → Adds old g new
adds_as old new f g same adds = record { size = adds.size; each = λ m l. adds.each m l ∙ ap (λ k. get_or old m 0 + k) (same m) }

adds_then : (old mid new : List ℕ) (f g : ℕ → ℕ) → Adds old f mid → Adds mid g new → Adds old (λ m. f m + g m) new
adds_then old mid new f g one two = record {
  size = two.size ∙ one.size;
  each = λ m l.
      let size = one.size in
      let first = one.each m l in
      let second = two.each m (omega (arith, l, size)) in
      omega (arith, first, second);
}

sum_when : (a b c : Bool) (by : ℕ) → ((a ≡ true) → (b ≡ true) → ⊥) → (a || b) ≡ c → (if a then by else 0) + (if b then by else 0) ≡ (if c then by else 0)
sum_when true true c by apart e = absurd (apart refl refl)
sum_when true false c by apart e = rw (sym e) (omega arith)
sum_when false b c by apart e = rw (sym e) (omega arith)

module _ (s : Stretch) (by : ℕ) where
  pub adds_begin : (places : List ℕ) → Adds places (reached s by (s.first - 1)) places
  adds_begin places = record {
    size = refl;
    each = λ m l.
        let none : (nat_le s.first (m + 1) && nat_lt m (s.first - 1)) ≡ false = grind (arith, nat_tests) in
        let zero_more : reached s by (s.first - 1) m ≡ 0 = ap (λ b. if b then by else 0) none in
        omega (arith, zero_more);
  }

  pub adds_next : (old now new : List ℕ) (place : ℕ) → s.first - 1 ≤ place → Adds old (reached s by place) now → Adds now (λ m. if m == place then by else 0) new →
      Adds old (reached s by (place + 1)) new
  adds_next old now new place from so_far more =
      adds_as old new (λ m. reached s by place m + (if m == place then by else 0)) (reached s by (place + 1))
      (λ m. sum_when (nat_le s.first (m + 1) && nat_lt m place) (m == place) (nat_le s.first (m + 1) && nat_lt m (place + 1)) by (apart m) (joined m))
      (adds_then old now new (reached s by place) (λ m. if m == place then by else 0) so_far more)
    where
      apart : (m : ℕ) → (nat_le s.first (m + 1) && nat_lt m place) ≡ true → (m == place) ≡ true → ⊥
      apart m e f = absurd (grind (arith, nat_tests))

      joined : (m : ℕ) → ((nat_le s.first (m + 1) && nat_lt m place) || m == place) ≡ (nat_le s.first (m + 1) && nat_lt m (place + 1))
      joined m = grind (arith, nat_tests)

  pub adds_end : (old now : List ℕ) (place : ℕ) → s.last ≤ place → place ≤ max (s.first - 1) s.last → Adds old (reached s by place) now → Adds old (along s by) now
  adds_end old now place past upto so_far =
      adds_as old now (reached s by place) (along s by)
      (λ m.
      let same : (nat_le s.first (m + 1) && nat_lt m place) ≡ goes_through s m = grind (arith, nat_tests) in
      ap (λ b. if b then by else 0) same)
      so_far

  pub place_room : (old now : List ℕ) (place : ℕ) → ((m : ℕ) → get_or old m 0 + by < 2 ^ 63) → Adds old (reached s by place) now → get_or now place 0 + by < 2 ^ 63
  place_room old now place room so_far = elim (cases_lt place (length old)) [
    | inl low ↦ (
        let each = so_far.each place low in
        let none : (nat_le s.first (place + 1) && nat_lt place place) ≡ false = grind (arith, nat_tests) in
        let zero_more : reached s by place place ≡ 0 = ap (λ b. if b then by else 0) none in
        let most = room place in
        omega (arith, each, zero_more, most))
    | inr past ↦ (
        let size = so_far.size in
        let none = get_or_past now place 0 (omega (arith, past, size)) in
        let most = room place in
        omega (arith, none, most))
  ]

-- ---- channels without an occupied track
pub one_channel_more : (n places : ℕ) (now new : List (List ℕ)) (row : List ℕ) → now ≡ replicate n (replicate places 0) → row ≡ replicate places 0 → new ≡ now ++ row ∷ [] →
    new ≡ replicate (n + 1) (replicate places 0)
one_channel_more n places now new row so_far one more =
    more ∙ ap₂ (λ (xs : List (List ℕ)) (x : List ℕ). xs ++ x ∷ []) so_far one ∙ replicate_more n (replicate places 0)

-- ---- what a node occupies
module _ (f : Fabric) (by c m : ℕ) where
  both : (a b : Bool) → (if a then (if b then by else 0) else 0) ≡ (if a && b then by else 0)
  both true b = refl
  both false b = refl

  by_kinds : (n : Node) (of k : Kind) → across (stretch_in k (if is_wire of then Some (of, span_by of f n, reach_of f n.number) else None)) by c m
      ≡ (if runs_by of (place_in k c m).0 f n (place_in k c m).1 (place_in k c m).2 then by else 0)
  by_kinds n Source k = refl
  by_kinds n Sink k = refl
  by_kinds n Opin k = refl
  by_kinds n Ipin k = refl
  by_kinds n Chanx Source = refl
  by_kinds n Chanx Sink = refl
  by_kinds n Chanx Opin = refl
  by_kinds n Chanx Ipin = refl
  by_kinds n Chanx Chanx = both (n.y == c) _
  by_kinds n Chanx Chany = refl
  by_kinds n Chany Source = refl
  by_kinds n Chany Sink = refl
  by_kinds n Chany Opin = refl
  by_kinds n Chany Ipin = refl
  by_kinds n Chany Chanx = refl
  by_kinds n Chany Chany = both (n.x == c) _

  pub by_node : (k : Kind) (o : Option Node) → across (stretch_in k (wire_in f o)) by c m ≡ (if option_map_or (λ n. runs_through f n (place_in k c m)) o false then by else 0)
  unfolding wire_in runs_through
  by_node k None = refl
  by_node k (Some n) = by_kinds n n.kind k

pub node_adds : (f : Fabric) (uses : List ℕ) (k : Kind) (node : ℕ) (stretch : Option Stretch) (by used : ℕ) (mode : Mode) (old new : List (List ℕ)) →
    stretch ≡ stretch_in k (wire_in f (node_at f node)) → mode ≡ f.mode → used ≡ get_or uses node 0 → by ≡ occupied_by mode used → AddsAll old (across stretch by) new →
    AddsAll old (λ c m. occupies f uses (place_in k c m) node) new
node_adds f uses k node stretch by used mode old new where_is modes counted is adds = record {
  size = adds.size;
  each = λ c low.
      let whole : by ≡ occupied_by f.mode (get_or uses node 0) = is ∙ ap₂ occupied_by modes counted in
      adds_as (get_or old c []) (get_or new c []) (across stretch by c) (λ m. occupies f uses (place_in k c m) node)
      (λ m.
      ap₂ (λ (s : Option Stretch) (b : ℕ). across s b c m) where_is whole
      ∙ by_node f (occupied_by f.mode (get_or uses node 0)) c m k (node_at f node))
      (adds.each c low);
}

-- ---- all nodes
few_by : (mode : Mode) (used : ℕ) → used ≤ 65535 → occupied_by mode used ≤ 65535
few_by Detailed used l = omega (arith, l)
few_by Global used l = l

few_if : (b : Bool) (by : ℕ) → by ≤ 65535 → (if b then by else 0) ≤ 65535
few_if true by l = l
few_if false by l = omega arith

module _ (f : Fabric) (uses : List ℕ) (k : Kind) (n count : ℕ) where
  pub none_occupied : (table : List (List ℕ)) → table ≡ replicate count (replicate n 0) → IsOccupied f uses k n count 0 table
  none_occupied table free =
      let row : (c : ℕ) → c < count → get_or table c [] ≡ replicate n 0 = λ c l. ap (λ t. get_or t c []) free ∙ get_or-replicate count c (replicate n 0) [] l in
      record {
        size = ap length free ∙ length-replicate count (replicate n 0);
        rows = λ c l. ap length (row c l) ∙ length-replicate n 0;
        each = λ c m l o. ap (λ r. get_or r m 0) (row c l) ∙ get_or-replicate n m 0 0 o;
      }

  pub node_occupied : (nodes : ℕ) (old new : List (List ℕ)) → IsOccupied f uses k n count nodes old → AddsAll old (λ c m. occupies f uses (place_in k c m) nodes) new →
      IsOccupied f uses k n count (nodes + 1) new
  node_occupied nodes old new so_far adds = record {
    size = adds.size ∙ so_far.size;
    rows = λ c l.
        let size = so_far.size in
        let more = adds.each c (omega (arith, l, size)) in
        more.size ∙ so_far.rows c l;
    each = λ c m l o.
        let size = so_far.size in
        let more = adds.each c (omega (arith, l, size)) in
        let row = so_far.rows c l in
        let grown = more.each m (omega (arith, o, row)) in
        let before = so_far.each c m l o in
        let next = sum_next (occupies f uses (place_in k c m)) nodes in
        omega (arith, grown, before, next);
  }

  pub occupied_small : ((a : ℕ) → get_or uses a 0 ≤ 65535) → (nodes : ℕ) → nodes < 2 ^ 23 → (table : List (List ℕ)) → IsOccupied f uses k n count nodes table →
      (c m : ℕ) → get_or (get_or table c []) m 0 ≤ 2 ^ 40
  occupied_small few nodes low table so_far c m = elim (cases_lt c count) [
    | inl there ↦ elim (cases_lt m n) [
      | inl within ↦ (
          let each = so_far.each c m there within in
          let most = sum_by-le (occupies f uses (place_in k c m)) 65535 (numbers_below nodes)
          (λ i d l. few_if (runs_at f (place_in k c m) (get_or (numbers_below nodes) i d)) _ (few_by f.mode _ (few (get_or (numbers_below nodes) i d)))) in
          let size = length-range_with_len 0 nodes in
          omega (arith, each, most, size, low))
      | inr past ↦ (
          let row = so_far.rows c there in
          let none = get_or_past (get_or table c []) m 0 (omega (arith, past, row)) in
          omega (arith, none))
    ]
    | inr past ↦ (
        let size = so_far.size in
        let none : get_or (get_or table c []) m 0 ≡ 0 = ap (λ (r : List ℕ). get_or r m 0) (get_or_past table c [] (omega (arith, past, size))) in
        omega (arith, none))
  ]

  pub all_occupied : (table : List (List ℕ)) → IsOccupied f uses k n count (node_count_of f) table → table ≡ map (occupancies_in f uses k n) (numbers_below count)
  unfolding occupancy_at
  all_occupied table done =
      let size = done.size in
      same_lists table (map (occupancies_in f uses k n) (numbers_below count)) (size ∙ sym (length_below (occupancies_in f uses k n) count))
      (λ c d l.
      let there : c < count = omega (arith, l, size) in
      get_or_default table c d [] l ∙ row_is c there ∙ sym (get_below (occupancies_in f uses k n) count c d there))
    where
      row_is : (c : ℕ) → c < count → get_or table c [] ≡ occupancies_in f uses k n c
      row_is c there =
          let row = done.rows c there in
          same_lists (get_or table c []) (occupancies_in f uses k n c) (row ∙ sym (length_below (λ m. occupancy_at f uses (place_in k c m)) n))
          (λ m d l.
          let within : m < n = omega (arith, l, row) in
          get_or_default (get_or table c []) m d 0 l ∙ done.each c m there within ∙ sym (get_below (λ m. occupancy_at f uses (place_in k c m)) n m d within))

-- ---- small numbers
row_is_small : (channels : List (List ℕ)) → AreSmall channels → (c : ℕ) → All (λ n. n ≤ 2 ^ 40) (get_or channels c [])
row_is_small channels small c = λ m d l. subst (λ n. n ≤ 2 ^ 40) (get_or_default (get_or channels c []) m 0 d l) (small.each c m)

pub few_places : (channels : List (List ℕ)) (c : ℕ) (row : List ℕ) → AreSmall channels → row ≡ get_or channels c [] → length row ≤ 65535
few_places channels c row small is = subst (λ r. length r ≤ 65535) (sym is) (small.rows c)

pub small_places : (channels : List (List ℕ)) (c : ℕ) (row : List ℕ) → AreSmall channels → row ≡ get_or channels c [] → All (λ n. n ≤ 2 ^ 40) row
small_places channels c row small is = subst (All (λ n. n ≤ 2 ^ 40)) (sym is) (row_is_small channels small c)

module _ (f : Fabric) (uses : List ℕ) (few : (a : ℕ) → get_or uses a 0 ≤ 65535) (within : IsFabric f) (k : Kind) (n count : ℕ) (short : n ≤ 65535) where
  occupancy_small : (q : Place) → occupancy_at f uses q ≤ 2 ^ 40
  unfolding occupancy_at
  occupancy_small q =
      let nodes = node_count_of f in
      let most = sum_by-le (occupies f uses q) 65535 (numbers_below nodes)
      (λ i d l. few_if (runs_at f q (get_or (numbers_below nodes) i d)) _ (few_by f.mode _ (few (get_or (numbers_below nodes) i d)))) in
      let size = length-range_with_len 0 nodes in
      let low = node_count_below f within in
      omega (arith, most, size, low)

  row_of : (c : ℕ) → (length (get_or (map (occupancies_in f uses k n) (numbers_below count)) c []) ≤ 65535) × ((m : ℕ) → get_or (get_or (map (occupancies_in f uses k n) (numbers_below count)) c []) m 0 ≤ 2 ^ 40)
  row_of c = elim (cases_lt c count) [
    | inl there ↦ (
        let row = get_below (occupancies_in f uses k n) count c [] there in
        let size : length (get_or (map (occupancies_in f uses k n) (numbers_below count)) c []) ≡ n = ap length row ∙ length_below (λ m. occupancy_at f uses (place_in k c m)) n in
        (omega (arith, size, short), λ m. subst (λ (r : List ℕ). get_or r m 0 ≤ 2 ^ 40) (sym row) (at c m)))
    | inr past ↦ (
        let none = get_or_past (map (occupancies_in f uses k n) (numbers_below count)) c [] (omega (arith, past, length_below (occupancies_in f uses k n) count)) in
        (subst (λ (r : List ℕ). length r ≤ 65535) (sym none) (omega arith), λ m. subst (λ (r : List ℕ). get_or r m 0 ≤ 2 ^ 40) (sym none) (omega arith)))
  ]
    where
      at : (c m : ℕ) → get_or (occupancies_in f uses k n c) m 0 ≤ 2 ^ 40
      at c m = elim (cases_lt m n) [
        | inl low ↦ (
            let is = get_below (λ m. occupancy_at f uses (place_in k c m)) n m 0 low in
            subst (λ a. a ≤ 2 ^ 40) (sym is) (occupancy_small (place_in k c m)))
        | inr past ↦ (
            let none = get_or_past (occupancies_in f uses k n c) m 0 (omega (arith, past, length_below (λ m. occupancy_at f uses (place_in k c m)) n)) in
            omega (arith, none))
      ]

  pub are_small : AreSmall (map (occupancies_in f uses k n) (numbers_below count))
  are_small = record { rows = λ c. (row_of c).0; each = λ c m. (row_of c).1 m }

-- ---- channels by number
pub numbered_more : (k : Kind) (channels : List (List ℕ)) (number : ℕ) (old now new : List Channel) (channel : Channel) → now ≡ old ++ numbered k channels number →
    channel ≡ channel_with k number (get_or channels number []) → new ≡ now ++ channel ∷ [] → new ≡ old ++ numbered k channels (number + 1)
numbered_more k channels number old now new channel so_far is more =
    more ∙ ap₂ (λ (xs : List Channel) (x : Channel). xs ++ x ∷ []) so_far is ∙ mapped_more (λ c. channel_with k c (get_or channels c [])) old number

pub none_numbered : (k : Kind) (channels : List (List ℕ)) (old : List Channel) → old ≡ old ++ numbered k channels 0
none_numbered k channels old = sym (append-nil old)

pub numbered_all : (f : Fabric) (uses : List ℕ) (k : Kind) (n count : ℕ) (channels : List (List ℕ)) → channels ≡ map (occupancies_in f uses k n) (numbers_below count) →
    numbered k channels count ≡ channels_along f uses k n count
numbered_all f uses k n count channels are =
    same_below (λ c. channel_with k c (get_or channels c [])) (λ c. channel_with k c (occupancies_in f uses k n c)) count
    (λ c l. ap (channel_with k c) (ap (λ (cs : List (List ℕ)). get_or cs c []) are ∙ get_below (occupancies_in f uses k n) count c [] l))
  where
    same_below : (g h : ℕ → Channel) (m : ℕ) → ((c : ℕ) → c < m → g c ≡ h c) → map g (numbers_below m) ≡ map h (numbers_below m)
    same_below g h m same =
        same_lists (map g (numbers_below m)) (map h (numbers_below m)) (length_below g m ∙ sym (length_below h m))
        (λ c d l.
        let low : c < m = omega (arith, l, length_below g m) in
        get_below g m c d low ∙ same c low ∙ sym (get_below h m c d low))
