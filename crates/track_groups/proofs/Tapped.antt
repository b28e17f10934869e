-- Input pins that are found by the edges from wires, one by one.
use Rattle.std.proofs.Common.{◌≡◌, ℕ, ◌+◌, ◌<◌, ◌≤◌, ◌==◌, Bool, true, false, List, [], ◌∷◌, ◌++◌, length, take, get_or, Some, inl, inr, refl, sym, ap, ◌∙◌, subst, arith}
use Rattle.std.specs.Prelude.{◌&&◌, ◌||◌, nat_le}
use Rattle.std.specs.List.{list_any}
use Rattle.std.specs.Int.{bit_at}
use Rattle.std.specs.Option.{option_map}
use Rattle.std.proofs.Math.ListN.{set}
use Rattle.std.proofs.lemmas.Bool.{cases_lt, eqb-true, false_from_ne_true}
use Rattle.std.proofs.lemmas.Bool.Decides.{nat_tests}
use Rattle.std.proofs.lemmas.Option.{none-some, slice_get_past}
use Rattle.std.proofs.lemmas.List.{take_more}
use Rattle.std.proofs.lemmas.List.Folds.{list_any-append}
use Rattle.std.proofs.lemmas.Nat.Bits.{bit_at-zero}
use Rattle.std.proofs.Math.Bool.{and-false, or-false, and-or_distrib_left}
use Rattle.routing_problem.specs.node.Kind.TheVariants.{Ipin}
use Rattle.routing_problem.specs.Fabric.{Fabric}
use Rattle.routing_problem.specs.Nodes.{nodes_of, node_count_of, kind_of_node, is_wire_at}
use Rattle.track_groups.specs.declared.group.Tap.{Tap}
use Rattle.track_groups.specs.Joints.{taps_track, tap_on}
use Rattle.track_groups.specs.kept.Merging.{SetsBit}
use Rattle.track_groups.specs.kept.Joining.{TapsMore, AddsTap, AddTaps}
use Rattle.arch_file.proofs.Lists.{any_set}
use Rattle.track_groups.proofs.Tests.{or_last}
use Rattle.track_groups.proofs.WiresTold.{no_pin_and_wire}

-- from the first wire on no input pin stands
pub no_pin_from : (f : Fabric) (first id : ℕ) → ((i : ℕ) → i < node_count_of f → is_wire_at f i ≡ nat_le first i) → first ≤ id → kind_of_node f id ≡ Some Ipin → ⊥
no_pin_from f first id wires from pin = elim (cases_lt id (node_count_of f)) [
  | inl within ↦ (let test : nat_le first id ≡ true = grind (arith, nat_tests) in no_pin_and_wire f id pin (wires id within ∙ test))
  | inr past ↦ absurd (none-some Ipin (sym (ap (λ o. option_map (λ n. n.kind) o) (slice_get_past (nodes_of f) id past)) ∙ pin))
]

-- ---- one pin more
tap_set : (pin sink bits new track : ℕ) → SetsBit track bits new → (v j : ℕ) → taps_track v j (record { pin = pin; sink = sink; tracks = new }) ≡ ((pin == v && track == j) || taps_track v j (record { pin = pin; sink = sink; tracks = bits }))
tap_set pin sink bits new track s v j = ap (λ b. pin == v && b) (s.each j) ∙ and-or_distrib_left (pin == v) (track == j) (bit_at bits j == 1)

pub put_tap_set : (ts : List Tap) (pin track i : ℕ) (t : Tap) (new : ℕ) → i < length ts → t ≡ get_or ts i t → t.pin ≡ pin → SetsBit track t.tracks new
    → TapsMore pin track ts (set ts i (record { pin = t.pin; sink = t.sink; tracks = new }))
unfolding tap_on
put_tap_set ts pin track i t new l here e s = record {
  each = λ v j.
      any_set (taps_track v j) (pin == v && track == j) ts i t _ l
      (tap_set t.pin t.sink t.tracks new track s v j ∙ ap (λ p. (p == v && track == j) || taps_track v j t) e ∙ ap (λ (x : Tap). (pin == v && track == j) || taps_track v j x) here);
}

pub put_tap_push : (ts : List Tap) (pin sink track new : ℕ) → SetsBit track 0 new → TapsMore pin track ts (ts ++ record { pin = pin; sink = sink; tracks = new } ∷ [])
unfolding tap_on
put_tap_push ts pin sink track new s = record {
  each = λ v j.
      let none : taps_track v j (record { pin = pin; sink = sink; tracks = 0 }) ≡ false = ap (λ b. pin == v && (b == 1)) (bit_at-zero j) ∙ and-false (pin == v) in
      let one : taps_track v j (record { pin = pin; sink = sink; tracks = new }) ≡ (pin == v && track == j) =
      tap_set pin sink 0 new track s v j ∙ ap (λ b. (pin == v && track == j) || b) none ∙ or-false (pin == v && track == j) in
      list_any-append (taps_track v j) ts (record { pin = pin; sink = sink; tracks = new } ∷ [])
      ∙ ap (λ b. list_any (taps_track v j) ts || (b || false)) one ∙ or_last (list_any (taps_track v j) ts) (pin == v && track == j);
}

-- ---- the pins among nodes
pub taps_none : (f : Fabric) (track : ℕ) (ts : List Tap) → AddTaps f [] track ts ts
taps_none f track ts = record { each = λ v j pin. sym (ap (λ b. b || tap_on ts v j) (and-false (track == j))) }

join_tests : (a t r o : Bool) → ((a && t) || ((t && r) || o)) ≡ ((t && (r || (a || false))) || o)
join_tests true true true o = refl
join_tests true true false o = refl
join_tests true false true o = refl
join_tests true false false o = refl
join_tests false true true o = refl
join_tests false true false o = refl
join_tests false false true o = refl
join_tests false false false o = refl

skip_tests : (t r o : Bool) → ((t && r) || o) ≡ ((t && (r || (false || false))) || o)
skip_tests t r o = ap (λ b. (t && b) || o) (sym (or-false r))

taps_more : (f : Fabric) (ids : List ℕ) (v track : ℕ) (old mid new : List Tap) → AddTaps f ids track old mid → AddsTap f v track mid new → AddTaps f (ids ++ v ∷ []) track old new
taps_more f ids v track old mid new before adds = record {
  each = λ u j pin.
      let any = list_any-append (λ i. i == u) ids (v ∷ []) in
      let r = list_any (λ i. i == u) ids in
      let P : List Tap → Type 0 = λ ts. tap_on ts u j ≡ ((track == j && list_any (λ i. i == u) (ids ++ v ∷ [])) || tap_on old u j) in
      elim adds [
        | inl more ↦ more.each u j ∙ ap (λ b. (v == u && track == j) || b) (before.each u j pin)
            ∙ join_tests (v == u) (track == j) r (tap_on old u j) ∙ sym (ap (λ b. (track == j && b) || tap_on old u j) any)
        | inr none ↦ (
            let Q : ℕ → Type 0 = λ i. kind_of_node f i ≡ Some Ipin in
            let other : (v == u) ≡ false = false_from_ne_true (v == u) (λ e. none.0 (subst Q (sym (eqb-true v u e)) pin)) in
            subst P (sym none.1) (before.each u j pin ∙ skip_tests (track == j) r (tap_on old u j)
            ∙ sym (ap (λ b. (track == j && (r || (b || false))) || tap_on old u j) other) ∙ sym (ap (λ b. (track == j && b) || tap_on old u j) any)))
      ];
}

pub taps_next : (f : Fabric) (ids : List ℕ) (i track : ℕ) (old mid new : List Tap) → i < length ids → AddTaps f (take i ids) track old mid → AddsTap f (get_or ids i 0) track mid new
    → AddTaps f (take (i + 1) ids) track old new
taps_next f ids i track old mid new l before adds =
    let P : List ℕ → Type 0 = λ xs. AddTaps f xs track old new in
    subst P (sym (take_more ids i 0 l)) (taps_more f (take i ids) (get_or ids i 0) track old mid new before adds)
