-- Pairs that hang on earlier ones are listed exactly where none breaks off.
use Rattle.std.proofs.Common.{◌≡◌, ℕ, ◌+◌, ◌-◌, ◌<◌, ◌==◌, zero, suc, Bool, true, false, not, ◌&&◌, ◌||◌, List, [], ◌∷◌, length, get_or, inl, inr, refl, sym, ap, ap₂, ◌∙◌, arith, add-one}
use Rattle.std.specs.Prelude.{take}
use Rattle.std.specs.List.{list_any, range_with_len}
use Rattle.std.proofs.lemmas.Bool.{and_parts, not-false, or_cases, or_left, or_right}
use Rattle.routing_problem.specs.Fabric.{Fabric}
use Rattle.routing_problem.specs.Problems.{Net, is_sink}
use Rattle.route_tree.specs.Paths.{Pair, ends_of}
use Rattle.route_tree.specs.Legality.{is_among, may_begin, is_listed_after, is_listed}
use Rattle.route_tree.specs.Faults.{begins_elsewhere}
use Rattle.route_tree.specs.kept.Ladder.{HangOnEarlier, breaks_at, breaks_off}
use Rattle.route_tree.proofs.RowTests.{same_test}

any_later : (test shifted : ℕ → Bool) → ((k : ℕ) → test (k + 1) ≡ shifted k) → (a m : ℕ) → list_any test (range_with_len (a + 1) m) ≡ list_any shifted (range_with_len a m)
any_later test shifted same a zero = refl
any_later test shifted same a (suc m) = ap₂ (λ b c. b || c) (same a) (any_later test shifted same (a + 1) m)

swapped : (s x e r : Bool) → (s || (e || (x || r))) ≡ (s || ((x || e) || r))
swapped true x e r = refl
swapped false true true r = refl
swapped false true false r = refl
swapped false false e r = refl

allowed : (s a : Bool) → (s || (a || false)) ≡ true → (s || a) ≡ true
allowed true a e = refl
allowed false true e = refl
allowed false false e = e

widened : (s a : Bool) → (s || a) ≡ true → (s || (a || false)) ≡ true
widened true a e = refl
widened false true e = refl
widened false false e = e

joint : (x t c : Bool) → ((x || (t && true)) && not c) ≡ not (not (x || t) || c)
joint true t c = refl
joint false true c = refl
joint false false c = refl

module _ (f : Fabric) where
  -- the first of these pairs breaks off from end e, or a later one from the end before it
  abbrev breaks_after : (e : ℕ) → List Pair → Bool
  breaks_after e [] = false
  breaks_after e (p ∷ ps) = not (p.0 == e || is_sink f e) || breaks_after p.1 ps

  breaks_later : (p q : Pair) (ps : List Pair) (k : ℕ) → breaks_at f (p ∷ q ∷ ps) (k + 1) ≡ breaks_at f (q ∷ ps) k
  breaks_later p q ps k = simp add-one

  breaks_first : (p : Pair) (ps : List Pair) → list_any (breaks_at f (p ∷ ps)) (range_with_len 0 (length ps)) ≡ breaks_after p.1 ps
  breaks_first p [] = refl
  breaks_first p (q ∷ qs) =
      ap (λ b. not (q.0 == p.1 || is_sink f p.1) || b)
      (any_later (breaks_at f (p ∷ q ∷ qs)) (breaks_at f (q ∷ qs)) (breaks_later p q qs) 0 (length qs) ∙ breaks_first q qs)

  -- a node is the source, one of the earlier ends, or an end of these pairs
  abbrev begins_after : (source : ℕ) (earlier : List ℕ) → List Pair → ℕ → Bool
  begins_after source earlier ps a = source == a || (is_among earlier a || is_among (ends_of ps) a)

  -- after pairs with these ends each pair begins at the source or at an end
  abbrev HangAfter : (source : ℕ) (earlier : List ℕ) → List Pair → Type 0
  HangAfter source earlier ps =
      (k : ℕ) → k < length ps → begins_after source earlier (take k ps) (get_or ps k (0, 0)).0 ≡ true

  hang_on : (source : ℕ) (earlier : List ℕ) (p : Pair) (ps : List Pair) →
      HangAfter source earlier (p ∷ ps) → HangAfter source (p.1 ∷ earlier) ps
  hang_on source earlier p ps hang k l =
      let a = (get_or ps k (0, 0)).0 in
      sym (swapped (source == a) (p.1 == a) (is_among earlier a) (is_among (ends_of (take k ps)) a)) ∙ hang (suc k) (omega arith)

  listed_after : (source e : ℕ) (earlier : List ℕ) (ps : List Pair) → HangAfter source (e ∷ earlier) ps →
      is_listed_after f source (e ∷ earlier) ps ≡ not (breaks_after e ps)
  listed_after source e earlier [] hang = refl
  listed_after source e earlier (p ∷ ps) hang =
      ap₂ (λ u v. (e == p.0 || (is_sink f e && u)) && v)
      (allowed (source == p.0) (is_among (e ∷ earlier) p.0) (hang 0 (omega arith)))
      (listed_after source p.1 (e ∷ earlier) ps (hang_on source (e ∷ earlier) p ps hang))
      ∙ joint (e == p.0) (is_sink f e) (breaks_after p.1 ps)
      ∙ ap (λ b. not (not (b || is_sink f e) || breaks_after p.1 ps)) (same_test e p.0)

  pub listed : (n : Net) (pairs : List Pair) → begins_elsewhere n.source pairs ≡ false → HangOnEarlier n.source pairs →
      is_listed f n pairs ≡ not (breaks_off f pairs)
  unfolding is_listed
  listed n [] first hang = refl
  listed n (p ∷ ps) first hang =
      let all : suc (length ps) - 1 ≡ length ps = omega arith in
      ap₂ (λ u v. u && v) (not-false (p.0 == n.source) first) (listed_after n.source p.1 [] ps (hang_on n.source [] p ps hang))
      ∙ ap not (sym (ap (λ m. list_any (breaks_at f (p ∷ ps)) (range_with_len 0 m)) all ∙ breaks_first p ps))

  -- ---- listed pairs hang on earlier ones
  may_begin_after : (source : ℕ) (earlier : List ℕ) (a : ℕ) → may_begin f source earlier a ≡ true → begins_after source earlier [] a ≡ true
  may_begin_after source [] a h = or_left (source == a) false (same_test source a ∙ h)
  may_begin_after source (e ∷ es) a h = elim (or_cases (e == a) (is_sink f e && (source == a || is_among (e ∷ es) a)) h) [
    | inl this ↦ or_right (source == a) (is_among (e ∷ es) a || false) (or_left (is_among (e ∷ es) a) false (or_left (e == a) (is_among es a) this))
    | inr behind ↦ widened (source == a) (is_among (e ∷ es) a) (and_parts (is_sink f e) (source == a || is_among (e ∷ es) a) behind).1
  ]

  listed_hang_after : (source : ℕ) (earlier : List ℕ) (ps : List Pair) → is_listed_after f source earlier ps ≡ true → HangAfter source earlier ps
  listed_hang_after source earlier [] h k l = absurd (omega arith)
  listed_hang_after source earlier (p ∷ ps) h zero l =
      may_begin_after source earlier p.0 (and_parts (may_begin f source earlier p.0) (is_listed_after f source (p.1 ∷ earlier) ps) h).0
  listed_hang_after source earlier (p ∷ ps) h (suc k) l =
      let a = (get_or ps k (0, 0)).0 in
      let later = (and_parts (may_begin f source earlier p.0) (is_listed_after f source (p.1 ∷ earlier) ps) h).1 in
      swapped (source == a) (p.1 == a) (is_among earlier a) (is_among (ends_of (take k ps)) a)
      ∙ listed_hang_after source (p.1 ∷ earlier) ps later k (omega arith)

  pub listed_hang : (n : Net) (pairs : List Pair) → is_listed f n pairs ≡ true → HangOnEarlier n.source pairs
  unfolding is_listed
  listed_hang n pairs h = listed_hang_after n.source [] pairs h
