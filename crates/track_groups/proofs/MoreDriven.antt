-- Tracks that are put together by their groups, one by one.
use Rattle.std.proofs.Common.{◌≡◌, ◌≢◌, ℕ, ◌+◌, ◌*◌, ◌%◌, ◌^◌, ◌<◌, ◌==◌, zero, suc, true, false, List, [], ◌∷◌, ◌++◌, length, take, get_or, inl, inr, refl, sym, ap, ◌∙◌, subst, arith, w64, bit_or}
use Rattle.std.specs.Prelude.{◌&&◌, ◌||◌, Contains}
use Rattle.std.specs.List.{list_any}
use Rattle.std.specs.Int.{bit_at}
use Rattle.std.proofs.Math.ListN.{set}
use Rattle.std.proofs.lemmas.Bool.{false≢true, cases_Bool, eqb-true, eq-eqb, or_cases, false_from_ne_true, and_parts}
use Rattle.std.proofs.lemmas.List.{take_more}
use Rattle.std.proofs.lemmas.List.Folds.{list_any-append, list_any_at}
use Rattle.std.proofs.lemmas.Nat.Bits.{bit_at-zero, bit_at_set_same, bit_at_set_other}
use Rattle.std.proofs.Math.Bool.{and-false, or-false, and-or_distrib_left}
use Rattle.std.specs.Cmp.{both_ways}
use Rattle.routing_problem.specs.Fabric.{Fabric}
use Rattle.routing_problem.specs.Edges.{edge_between, successors_of}
use Rattle.routing_problem.proofs.Graph.{successors_contain}
use Rattle.track_groups.specs.declared.group.Drive.{Drive}
use Rattle.track_groups.specs.declared.group.GroupTrack.{GroupTrack}
use Rattle.track_groups.specs.Groups.{Grouping, on_track, IsOn, wire_on, place_of, HasPlace, IsGrouped}
use Rattle.track_groups.specs.Drives.{drives, drive_track, AreDrivenBy}
use Rattle.track_groups.specs.kept.Merging.{SetsBit, is_one, DrivesMore, PutsNode, is_wire_of, AreMerged}
use Rattle.arch_file.proofs.Lists.{any_set}
use Rattle.track_groups.proofs.Tests.{or_last}
use Rattle.track_groups.proofs.WiresTold.{track_is_wire}

-- ---- bits
pub bit_set : (bits k : ℕ) → k < 64 → SetsBit k bits (bit_or bits (1 * 2 ^ k % 2 ^ 64))
bit_set bits k l = record {
  each = λ j.
      elim (cases_Bool (k == j)) [
        | inl e ↦ ap (λ b. b == 1) (ap (bit_at (bit_or bits (1 * 2 ^ k % 2 ^ 64))) (sym (eqb-true k j e)) ∙ bit_at_set_same w64 bits k l) ∙ sym (ap (λ b. b || bit_at bits j == 1) e)
        | inr e ↦ (
            let other : j ≢ k = λ q. false≢true (sym e ∙ eq-eqb k j (sym q)) in
            ap (λ b. b == 1) (bit_at_set_other w64 bits k l j other) ∙ sym (ap (λ b. b || bit_at bits j == 1) e))
      ];
}

-- ---- one track more
drive_set : (g bits new : ℕ) (q : GroupTrack) → g ≡ q.group → SetsBit q.track bits new → (p : GroupTrack) → drives p (record { group = g; tracks = new }) ≡ (is_one q p || drives p (record { group = g; tracks = bits }))
drive_set g bits new q e s p =
    ap (λ b. g == p.group && b) (s.each p.track)
    ∙ and-or_distrib_left (g == p.group) (q.track == p.track) (bit_at bits p.track == 1)
    ∙ ap (λ n. (n == p.group && q.track == p.track) || (g == p.group && bit_at bits p.track == 1)) e

pub put_set : (ds : List Drive) (q : GroupTrack) (i : ℕ) (d : Drive) (new : ℕ) → i < length ds → d ≡ get_or ds i d → d.group ≡ q.group → SetsBit q.track d.tracks new
    → DrivesMore q ds (set ds i (record { group = d.group; tracks = new }))
unfolding drive_track
put_set ds q i d new l here e s =
    record { each = λ p. any_set (drives p) (is_one q p) ds i d _ l (drive_set d.group d.tracks new q e s p ∙ ap (λ (x : Drive). is_one q p || drives p x) here) }

pub put_push : (ds : List Drive) (q : GroupTrack) (new : ℕ) → SetsBit q.track 0 new → DrivesMore q ds (ds ++ record { group = q.group; tracks = new } ∷ [])
unfolding drive_track
put_push ds q new s = record {
  each = λ p.
      let none : drives p (record { group = q.group; tracks = 0 }) ≡ false =
      ap (λ b. q.group == p.group && (b == 1)) (bit_at-zero p.track) ∙ and-false (q.group == p.group) in
      let one : drives p (record { group = q.group; tracks = new }) ≡ is_one q p = drive_set q.group 0 new q refl s p ∙ ap (λ b. is_one q p || b) none ∙ or-false (is_one q p) in
      list_any-append (drives p) ds (record { group = q.group; tracks = new } ∷ [])
      ∙ ap (λ b. list_any (drives p) ds || (b || false)) one ∙ or_last (list_any (drives p) ds) (is_one q p);
}

-- ---- the tracks of wires among nodes
pub merged_none : (t : Grouping) → AreMerged t [] []
unfolding drive_track
merged_none t = record { on = λ p h. absurd (false≢true h); told = λ p on. refl }

one_is : (q p : GroupTrack) → is_one q p ≡ true → q ≡ p
one_is q p e =
    let parts = and_parts (q.group == p.group) (q.track == p.track) e in
    ap (λ g. on_track g q.track) (eqb-true q.group p.group parts.0) ∙ ap (on_track p.group) (eqb-true q.track p.track parts.1)

is_one_of : (q p : GroupTrack) → q ≡ p → is_one q p ≡ true
is_one_of q p e =
    ap (λ b. b && q.track == p.track) (eq-eqb q.group p.group (ap (λ (r : GroupTrack). r.group) e)) ∙ eq-eqb q.track p.track (ap (λ (r : GroupTrack). r.track) e)

module _ (f : Fabric) (t : Grouping) (h : IsGrouped f t) (ids : List ℕ) (v : ℕ) (ds : List Drive) (merged : AreMerged t ids ds) where
  any_more : (p : GroupTrack) → list_any (is_wire_of t p) (ids ++ v ∷ []) ≡ (is_wire_of t p v || list_any (is_wire_of t p) ids)
  any_more p = list_any-append (is_wire_of t p) ids (v ∷ []) ∙ or_last (list_any (is_wire_of t p) ids) (is_wire_of t p v)

  pub merged_more : (new : List Drive) → HasPlace t v → DrivesMore (place_of t v) ds new → AreMerged t (ids ++ v ∷ []) new
  merged_more new has more =
      let q = place_of t v in
      let same = λ (p : GroupTrack) (on : IsOn t.groups p). both_ways (is_one q p) (is_wire_of t p v)
      (λ e. eq-eqb v (wire_on t.groups p) (sym has.is ∙ ap (wire_on t.groups) (one_is q p e)))
      (λ e. is_one_of q p (ap (place_of t) (eqb-true v (wire_on t.groups p) e) ∙ (h.tracks p on).place)) in
      record {
        on = λ p e. elim (or_cases (is_one q p) (drive_track ds p) (sym (more.each p) ∙ e)) [
          | inl one ↦ subst (IsOn t.groups) (one_is q p one) has.on
          | inr before ↦ merged.on p before
        ];
        told = λ p on. more.each p ∙ ap (λ b. b || drive_track ds p) (same p on) ∙ ap (λ b. is_wire_of t p v || b) (merged.told p on) ∙ sym (any_more p);
      }

  pub merged_skip : (HasPlace t v → ⊥) → AreMerged t (ids ++ v ∷ []) ds
  merged_skip none =
      let P : ℕ → Type 0 = HasPlace t in
      let other = λ (p : GroupTrack) (on : IsOn t.groups p). false_from_ne_true (is_wire_of t p v) (λ e.
      none (subst P (sym (eqb-true v (wire_on t.groups p) e)) (h.wires (wire_on t.groups p) (track_is_wire f t h p on)))) in
      record {
        on = merged.on;
        told = λ p on. merged.told p on ∙ sym (any_more p ∙ ap (λ b. b || list_any (is_wire_of t p) ids) (other p on));
      }

pub merged_next : (f : Fabric) (t : Grouping) → IsGrouped f t → (ids : List ℕ) (i : ℕ) (ds new : List Drive) → i < length ids → AreMerged t (take i ids) ds
    → PutsNode t (get_or ids i 0) ds new → AreMerged t (take (i + 1) ids) new
merged_next f t h ids i ds new l merged puts =
    let v = get_or ids i 0 in
    let P : List ℕ → Type 0 = λ xs. AreMerged t xs new in
    let Q : List Drive → Type 0 = λ es. AreMerged t (take i ids ++ v ∷ []) es in
    subst P (sym (take_more ids i 0 l)) (elim puts [
      | inl more ↦ merged_more f t h (take i ids) v ds merged new more.0 more.1
      | inr none ↦ subst Q (sym none.1) (merged_skip f t h (take i ids) v ds merged none.0)
    ])

-- ---- edges
some_same : (xs : List ℕ) (v : ℕ) → list_any (λ u. u == v) xs ≡ true → Contains xs v
some_same [] v e = absurd (false≢true e)
some_same (x ∷ xs) v e = elim (or_cases (x == v) (list_any (λ u. u == v) xs) e) [
  | inl here ↦ (zero, omega arith, eqb-true x v here)
  | inr later ↦ (let found = some_same xs v later in (suc found.0, (let l = found.1 in omega arith), found.2))
]

pub edge_listed : (f : Fabric) (o v : ℕ) → edge_between f o v ≡ list_any (λ u. u == v) (successors_of f o)
edge_listed f o v =
    let c = successors_contain f o v in
    both_ways (edge_between f o v) (list_any (λ u. u == v) (successors_of f o))
    (λ e. let h = c.1 e in list_any_at (λ u. u == v) (successors_of f o) h.0 v h.1 (eq-eqb (get_or (successors_of f o) h.0 v) v h.2))
    (λ e. c.0 (some_same (successors_of f o) v e))

pub driven_by : (f : Fabric) (t : Grouping) (o : ℕ) (ds : List Drive) → AreMerged t (successors_of f o) ds → AreDrivenBy f t o ds
driven_by f t o ds m = record { on = m.on; edges = λ p on. edge_listed f o (wire_on t.groups p) ∙ sym (m.told p on) }
