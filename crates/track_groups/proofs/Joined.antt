-- From the edges of each track to those of a group.
use Rattle.std.proofs.Common.{◌≡◌, ◌≢◌, ℕ, ◌+◌, ◌<◌, ◌≤◌, ◌==◌, zero, suc, Bool, true, false, List, [], ◌∷◌, ◌++◌, length, map, get_or, inl, inr, refl, sym, ap, ◌∙◌, subst, arith}
use Rattle.std.specs.Prelude.{◌&&◌, ◌||◌, nat_lt, All, Contains}
use Rattle.std.specs.List.{list_any}
use Rattle.std.proofs.lemmas.Bool.{cases_lt, false≢true, eqb-true, eq-eqb, or_cases}
use Rattle.std.proofs.lemmas.Bool.Decides.{nat_tests}
use Rattle.std.proofs.lemmas.List.{length-map, get_or-map, get_or_append_left, get_or_push, get_or_past}
use Rattle.std.proofs.lemmas.List.Elements.{All-nil}
use Rattle.std.proofs.lemmas.List.Folds.{list_any_at}
use Rattle.std.proofs.Math.Bool.{or-false}
use Rattle.routing_problem.specs.Fabric.{Fabric}
use Rattle.routing_problem.specs.Nodes.{is_wire_at}
use Rattle.routing_problem.specs.Edges.{edge_between, successors_of}
use Rattle.track_groups.specs.declared.group.Tap.{Tap}
use Rattle.track_groups.specs.Groups.{Grouping, group_at, on_track, IsOn, wire_on, IsGrouped}
use Rattle.track_groups.specs.Joints.{wire_beside, tap_on, IsTap, TellsWires, TellsEdges, Tables, IsTabled}
use Rattle.track_groups.specs.kept.Joining.{Matches, AddTaps, AreJoinedBefore, AreTold}
use Rattle.track_groups.proofs.OnTracks.{on_within}
use Rattle.track_groups.proofs.MoreDriven.{edge_listed}

-- ---- one track more
pub joined_none : (f : Fabric) (t : Grouping) (g : ℕ) → AreJoinedBefore f t g 0 [] []
unfolding tap_on
joined_none f t g = record {
  wires = λ j l. absurd (omega arith);
  pins = λ v j pin. (let test : nat_lt j 0 ≡ false = grind (arith, nat_tests) in sym (ap (λ b. b && edge_between f (wire_on t.groups (on_track g j)) v) test));
  taps = All-nil (IsTap f);
}

-- the track is this one, or one before
test_before : (j i : ℕ) (e o : Bool) → i < j → ((j == i && e) || (nat_lt i j && o)) ≡ (nat_lt i (j + 1) && o)
test_before j i e o l =
    let one : (j == i) ≡ false = grind (arith, nat_tests) in
    let old : nat_lt i j ≡ true = grind (arith, nat_tests) in
    let new : nat_lt i (j + 1) ≡ true = grind (arith, nat_tests) in
    ap (λ b. (b && e) || (nat_lt i j && o)) one ∙ ap (λ b. b && o) old ∙ sym (ap (λ b. b && o) new)

test_behind : (j i : ℕ) (e o : Bool) → j < i → ((j == i && e) || (nat_lt i j && o)) ≡ (nat_lt i (j + 1) && o)
test_behind j i e o l =
    let one : (j == i) ≡ false = grind (arith, nat_tests) in
    let old : nat_lt i j ≡ false = grind (arith, nat_tests) in
    let new : nat_lt i (j + 1) ≡ false = grind (arith, nat_tests) in
    ap (λ b. (b && e) || (nat_lt i j && o)) one ∙ ap (λ b. b && o) old ∙ sym (ap (λ b. b && o) new)

test_here : (j : ℕ) (e : Bool) → ((j == j && e) || (nat_lt j j && e)) ≡ (nat_lt j (j + 1) && e)
test_here j e =
    let one : (j == j) ≡ true = eq-eqb j j refl in
    let old : nat_lt j j ≡ false = grind (arith, nat_tests) in
    let new : nat_lt j (j + 1) ≡ true = grind (arith, nat_tests) in
    ap (λ b. (b && e) || (nat_lt j j && e)) one ∙ ap (λ b. e || (b && e)) old ∙ or-false e ∙ sym (ap (λ b. b && e) new)

test_next : (j i : ℕ) (edge : ℕ → Bool) → ((j == i && edge j) || (nat_lt i j && edge i)) ≡ (nat_lt i (j + 1) && edge i)
test_next j i edge = elim (cases_lt i j) [
  | inl l ↦ test_before j i (edge j) (edge i) l
  | inr past ↦ elim (cases_lt j i) [
    | inl l ↦ test_behind j i (edge j) (edge i) l
    | inr low ↦ (
        let e : j ≡ i = omega arith in
        let P : ℕ → Type 0 = λ k. ((j == k && edge j) || (nat_lt k j && edge k)) ≡ (nat_lt k (j + 1) && edge k) in
        subst P e (test_here j (edge j)))
  ]
]

pub joined_next : (f : Fabric) (t : Grouping) (g j : ℕ) (hs ms : List ℕ) (ts us : List Tap) (ids : List ℕ) → AreJoinedBefore f t g j hs ts → ids ≡ successors_of f (wire_on t.groups (on_track g j))
    → (j ≢ 0 → ms ≡ hs) → Matches t ids ms j → AddTaps f ids j ts us → All (IsTap f) us → AreJoinedBefore f t g (j + 1) ms us
joined_next f t g j hs ms ts us ids before listed kept matched added taps = record {
  wires = λ i l. elim (cases_lt i j) [
    | inl low ↦ (
        let some : j ≢ 0 = λ e. omega arith in
        let P : List ℕ → Type 0 = λ xs. Matches t (successors_of f (wire_on t.groups (on_track g i))) xs i in
        subst P (sym (kept some)) (before.wires i low))
    | inr past ↦ (
        let e : i ≡ j = omega arith in
        let P : ℕ → Type 0 = λ k. Matches t (successors_of f (wire_on t.groups (on_track g k))) ms k in
        let Q : List ℕ → Type 0 = λ xs. Matches t xs ms j in
        subst P (sym e) (subst Q listed matched))
  ];
  pins = λ v i pin.
      let edge = λ (k : ℕ). edge_between f (wire_on t.groups (on_track g k)) v in
      added.each v i pin
      ∙ ap (λ (xs : List ℕ). (j == i && list_any (λ u. u == v) xs) || tap_on ts v i) listed
      ∙ ap (λ b. (j == i && b) || tap_on ts v i) (sym (edge_listed f (wire_on t.groups (on_track g j)) v))
      ∙ ap (λ b. (j == i && edge j) || b) (before.pins v i pin)
      ∙ test_next j i edge;
  taps = taps;
}

-- ---- all tracks
any_contains : (g : ℕ → ℕ) (w : ℕ) (hs : List ℕ) → list_any (λ h. g h == w) hs ≡ true → Contains (map g hs) w
any_contains g w [] e = absurd (false≢true e)
any_contains g w (h ∷ hs) e = elim (or_cases (g h == w) (list_any (λ h. g h == w) hs) e) [
  | inl here ↦ (zero, omega arith, eqb-true (g h) w here)
  | inr later ↦ (let found = any_contains g w hs later in (suc found.0, (let l = found.1 in omega arith), found.2))
]

contains_any : (g : ℕ → ℕ) (w : ℕ) (hs : List ℕ) → Contains (map g hs) w → list_any (λ h. g h == w) hs ≡ true
contains_any g w hs c =
    let within : c.0 < length hs = (let l = c.1 in omega (arith, length-map hs g)) in
    list_any_at (λ h. g h == w) hs c.0 0 within (eq-eqb (g (get_or hs c.0 0)) w (sym (get_or-map g hs c.0 0 w within) ∙ c.2))

tells_wires : (f : Fabric) (t : Grouping) (g j : ℕ) (hs : List ℕ) → IsGrouped f t → Matches t (successors_of f (wire_on t.groups (on_track g j))) hs j → TellsWires f t.groups hs (on_track g j)
tells_wires f t g j hs h m =
    let v = wire_on t.groups (on_track g j) in
    let same = λ (w : ℕ) (wire : is_wire_at f w ≡ true). edge_listed f v w ∙ m.same w (h.wires w wire) in
    record {
      beside = m.beside;
      edges = λ w wire. ((λ e. any_contains (wire_beside t.groups j) w hs (sym (same w wire) ∙ e)), (λ c. same w wire ∙ contains_any (wire_beside t.groups j) w hs c));
    }

pub joined_all : (f : Fabric) (t : Grouping) (g n : ℕ) (hs : List ℕ) (ts : List Tap) → IsGrouped f t → n ≡ (group_at t.groups g).tracks → AreJoinedBefore f t g n hs ts → TellsEdges f t.groups g hs ts
joined_all f t g n hs ts h count all = record {
  wires = λ j on. tells_wires f t g j hs h (all.wires j (omega (arith, on, count)));
  pins = λ j on pin is.
      let l : j < n = omega (arith, on, count) in
      let test : nat_lt j n ≡ true = grind (arith, nat_tests) in
      sym (all.pins pin j is ∙ ap (λ b. b && edge_between f (wire_on t.groups (on_track g j)) pin) test);
  taps = all.taps;
}

-- ---- all groups
no_less : (n g : ℕ) → n ≤ g → g < n → ⊥
no_less n g past below = omega arith

pub told_none : (f : Fabric) (t : Grouping) (neighbours : List (List ℕ)) (taps : List (List Tap)) → AreTold 0 f t neighbours taps
told_none f t neighbours taps g l = absurd (omega arith)

pub told_next : (f : Fabric) (t : Grouping) (n : ℕ) (hss : List (List ℕ)) (tss : List (List Tap)) (hs : List ℕ) (ts : List Tap) → length hss ≡ n → length tss ≡ n → AreTold n f t hss tss
    → TellsEdges f t.groups n hs ts → AreTold (n + 1) f t (hss ++ hs ∷ []) (tss ++ ts ∷ [])
told_next f t n hss tss hs ts count counted before here g l = elim (cases_lt g n) [
  | inl low ↦ (
      let first : g < length hss = omega (arith, low, count) in
      let second : g < length tss = omega (arith, low, counted) in
      let P : List ℕ → Type 0 = λ xs. TellsEdges f t.groups g xs (get_or tss g []) in
      let Q : List Tap → Type 0 = λ xs. TellsEdges f t.groups g (get_or (hss ++ hs ∷ []) g []) xs in
      subst Q (sym (get_or_append_left tss (ts ∷ []) [] g second)) (subst P (sym (get_or_append_left hss (hs ∷ []) [] g first)) (before g low)))
  | inr past ↦ (
      let e : g ≡ n = omega (arith, past, l) in
      let P : List ℕ → Type 0 = λ xs. TellsEdges f t.groups g xs ts in
      let Q : List Tap → Type 0 = λ xs. TellsEdges f t.groups g (get_or (hss ++ hs ∷ []) g []) xs in
      let R : ℕ → Type 0 = λ i. TellsEdges f t.groups i hs ts in
      subst Q (sym (get_or_push tss ts [] g (counted ∙ sym e))) (subst P (sym (get_or_push hss hs [] g (count ∙ sym e))) (subst R (sym e) here)))
]

pub told_all : (f : Fabric) (t : Tables) → IsGrouped f t.wires → length t.taps ≡ length t.wires.groups → AreTold (length t.wires.groups) f t.wires t.neighbours t.taps → IsTabled f t
told_all f t h count told = record {
  grouped = h;
  joined = λ g. elim (cases_lt g (length t.wires.groups)) [
    | inl l ↦ told g l
    | inr past ↦ (
        let none = λ (j : ℕ) (on : IsOn t.wires.groups (on_track g j)). no_less (length t.wires.groups) g past (on_within t.wires.groups (on_track g j) on) in
        let P : List Tap → Type 0 = λ ts. All (IsTap f) ts in
        let longer : length t.taps ≤ g = omega (arith, past, count) in
        record {
          wires = λ j on. absurd (none j on);
          pins = λ j on. absurd (none j on);
          taps = subst P (sym (get_or_past t.taps g [] longer)) (All-nil (IsTap f));
        })
  ];
}
