-- The ends before a pair, the last one first.
use Rattle.std.proofs.Common.{◌≡◌, ℕ, ◌+◌, ◌<◌, ◌==◌, ◌||◌, ◌&&◌, Bool, true, false, List, [], ◌∷◌, length, get_or, drop, inl, inr, sym, ap, ap₂, ◌∙◌, subst, arith}
use Rattle.std.specs.Prelude.{Contains, take, reverse, nat_lt}
use Rattle.std.proofs.lemmas.Bool.{and_left, both_ways, cases_lt, false_from_ne_true, le-ltb, lt-ltb, or_from}
use Rattle.std.proofs.Math.Seq.{drop-length}
use Rattle.std.proofs.lemmas.List.{drop_more, length-take-le, get_or-take, map-append, reverse-append, take_more}
use Rattle.std.proofs.lemmas.List.Sorted.{list_any-IsPermutation, IsPermutation-reverse}
use Rattle.routing_problem.specs.Fabric.{Fabric}
use Rattle.route_tree.specs.Paths.{Pair, ends_of}
use Rattle.route_tree.specs.Legality.{is_among, may_begin, is_listed_after}
use Rattle.route_tree.specs.Faults.{reaches_twice}
use Rattle.route_tree.proofs.Members.{contains_among, end_among, ends_before}
use Rattle.route_check.specs.kept.Ends.{begin_in, end_in}
use Rattle.route_check.specs.kept.Listed.{earlier_ends}
use Rattle.route_check.proofs.Once.{same_row}

among_earlier : (pairs : List Pair) (k a : ℕ) → is_among (earlier_ends pairs k) a ≡ is_among (ends_of (take k pairs)) a
among_earlier pairs k a =
    sym (list_any-IsPermutation (λ x. x == a) (ends_of (take k pairs)) (earlier_ends pairs k) (IsPermutation-reverse (ends_of (take k pairs))))

-- pair j ends in the node, and no other one: it stands among the earlier ends where j is before k
earlier_is : (source : ℕ) (pairs : List Pair) (k a j : ℕ) → reaches_twice source pairs ≡ false → k < length pairs → j < length pairs → end_in pairs j ≡ a →
    nat_lt j k ≡ is_among (ends_of (take k pairs)) a
earlier_is source pairs k a j once l m same = elim (cases_lt j k) [
  | inl before ↦ (
      let size = length-take-le k pairs (omega arith) in
      let there = end_among (take k pairs) j (omega (arith, size, before)) in
      let end : (get_or (take k pairs) j (0, 0)).1 ≡ a = ap (λ (p : Pair). p.1) (get_or-take k pairs j (0, 0) before) ∙ same in
      lt-ltb j k before ∙ sym (contains_among (ends_of (take k pairs)) a (subst (Contains (ends_of (take k pairs))) end there)))
  | inr behind ↦
      le-ltb j k behind ∙ sym (false_from_ne_true (is_among (ends_of (take k pairs)) a) (λ e.
      let b = ends_before pairs k a l e in
      let low = b.before in
      let one = same_row source pairs once b.place j (omega (arith, low, l)) m (b.end ∙ sym same) in
      omega (arith, low, one, behind)))
]

pub one_after : (source : ℕ) (pairs : List Pair) (k a j : ℕ) → reaches_twice source pairs ≡ false → k < length pairs → j < length pairs → end_in pairs j ≡ a →
    (source == a) ≡ false → nat_lt j k ≡ is_among (source ∷ earlier_ends pairs k) a
one_after source pairs k a j once l m same apart =
    earlier_is source pairs k a j once l m same ∙ sym (among_earlier pairs k a) ∙ ap (λ b. b || is_among (earlier_ends pairs k) a) (sym apart)

pub none_after : (source : ℕ) (pairs : List Pair) (k a : ℕ) → k < length pairs → is_among (ends_of pairs) a ≡ false → (source == a) ≡ false →
    false ≡ is_among (source ∷ earlier_ends pairs k) a
none_after source pairs k a l none apart =
    sym (or_from (source == a) (is_among (earlier_ends pairs k) a) apart (false_from_ne_true (is_among (earlier_ends pairs k) a) (λ e.
    let b = ends_before pairs k a l (sym (among_earlier pairs k a) ∙ e) in
    let low = b.before in
    both_ways (is_among (ends_of pairs) a) none
    (contains_among (ends_of pairs) a (subst (Contains (ends_of pairs)) b.end (end_among pairs b.place (omega (arith, low, l))))))))

-- ---- one pair more
pub earlier_next : (pairs : List Pair) (k : ℕ) → k < length pairs → earlier_ends pairs (k + 1) ≡ end_in pairs k ∷ earlier_ends pairs k
earlier_next pairs k l =
    ap (λ ps. reverse (ends_of ps)) (take_more pairs k (0, 0) l)
    ∙ ap reverse (map-append (λ (p : Pair). p.1) (take k pairs) (get_or pairs k (0, 0) ∷ []))
    ∙ reverse-append (ends_of (take k pairs)) (end_in pairs k ∷ [])

module _ (f : Fabric) (source : ℕ) (pairs : List Pair) (k : ℕ) (l : k < length pairs) where
  abbrev rest : ℕ → Bool
  rest i = is_listed_after f source (earlier_ends pairs i) (drop i pairs)

  opened : rest k ≡ (may_begin f source (earlier_ends pairs k) (begin_in pairs k) && is_listed_after f source (end_in pairs k ∷ earlier_ends pairs k)
      (drop (k + 1) pairs))
  opened = ap (is_listed_after f source (earlier_ends pairs k)) (drop_more pairs k (0, 0) l)

  pub listed_on : may_begin f source (earlier_ends pairs k) (begin_in pairs k) ≡ true → rest k ≡ rest (k + 1)
  listed_on e =
      opened ∙ ap₂ (λ b es. b && is_listed_after f source es (drop (k + 1) pairs)) e (sym (earlier_next pairs k l))

  pub listed_off : may_begin f source (earlier_ends pairs k) (begin_in pairs k) ≡ false → rest k ≡ false
  listed_off e = opened ∙ and_left (may_begin f source (earlier_ends pairs k) (begin_in pairs k)) _ e

pub listed_end : (f : Fabric) (source : ℕ) (pairs : List Pair) (k : ℕ) → k ≡ length pairs →
    is_listed_after f source (earlier_ends pairs k) (drop k pairs) ≡ true
listed_end f source pairs k all =
    ap (is_listed_after f source (earlier_ends pairs k)) (ap (λ i. drop i pairs) all ∙ drop-length pairs)
