-- Ends of pairs that are sorted by node: each pair's end stands among them, and a node that stands
-- twice stands beside itself.
use Rattle.std.proofs.Common.{◌≡◌, ◌≢◌, ℕ, ◌+◌, ◌-◌, ◌<◌, Bool, true, false, List, length, map, get_or, All, Some, inl, inr, refl, sym, ap, ◌∙◌, subst, arith}
use Rattle.std.specs.Prelude.{Contains}
use Rattle.std.specs.List.{list_any}
use Rattle.std.specs.List.Sorted.{IsPermutation}
use Rattle.std.proofs.lemmas.Bool.{both_ways, cases_lt, eqb-true, eq-eqb, false_from_ne_true, true_from_ne_false}
use Rattle.std.proofs.lemmas.List.{length-map, get_or-map, same_lists}
use Rattle.std.proofs.lemmas.List.Elements.{All-get_or, All-from_get_or, at_from_Contains}
use Rattle.std.proofs.lemmas.List.Sorted.{All-permutation, Contains-permutation, IsPermutation-map, list_any-IsPermutation}
use Rattle.std.proofs.lemmas.List.FromFn.{get_or-range_with_len, length-range_with_len}
use Rattle.routing_problem.specs.Fabric.{numbers_below}
use Rattle.routing_problem.proofs.Ranges.{get_below, length_below, list_any-map, some_below}
use Rattle.route_tree.specs.Paths.{Pair, ends_of}
use Rattle.route_tree.specs.Legality.{is_among, has_twice}
use Rattle.route_tree.proofs.Members.{among_contains, among_ends, once_each, some_place}
use Rattle.route_check.specs.declared.listing.End.{End}
use Rattle.route_check.specs.kept.Ends.{no_end, end_in, end_at, AreEnds, IsRowOf, IsPlaceOf, is_repeated_at, is_repeated}
use Rattle.route_check.proofs.Twice.{two_places, twice_permuted}

module _ (pairs : List Pair) (ends : List End) (are : AreEnds pairs ends) where
  abbrev in_order : List End
  in_order = map (end_at pairs) (numbers_below (length pairs))

  -- each pair's end stands among them
  each_stands : (k : ℕ) → k < length pairs → Contains ends (end_at pairs k)
  each_stands k l =
      Contains-permutation in_order ends (end_at pairs k) are.all
      (k, omega (arith, length_below (end_at pairs) (length pairs), l), get_below (end_at pairs) (length pairs) k (end_at pairs k) l)

  -- each of them is a pair's
  abbrev IsEnd : End → Type 0
  IsEnd e = (e.row < length pairs) × (end_in pairs e.row ≡ e.node)

  all_are : All IsEnd in_order
  all_are =
      All-from_get_or IsEnd in_order no_end
      (λ k l.
      let within : k < length pairs = omega (arith, length_below (end_at pairs) (length pairs), l) in
      subst IsEnd (sym (get_below (end_at pairs) (length pairs) k no_end within)) (within, refl))

  pub each_is : (j : ℕ) → j < length ends → IsEnd (get_or ends j no_end)
  each_is j l = All-get_or IsEnd ends j no_end l (All-permutation IsEnd in_order ends are.all all_are)

  pub row_there : (a place : ℕ) → place < length ends → (get_or ends place no_end).node ≡ a → IsRowOf pairs a (Some (get_or ends place no_end).row)
  row_there a place l same = let is = each_is place l in (is.0, is.1 ∙ same)

  pub none_there : (a place : ℕ) → IsPlaceOf ends a place → (place < length ends → (get_or ends place no_end).node ≢ a) → is_among (ends_of pairs) a ≡ false
  none_there a place is other = false_from_ne_true (is_among (ends_of pairs) a) (λ e.
      let found = among_ends pairs a (among_contains (ends_of pairs) a e) in
      let there = at_from_Contains ends (end_at pairs found.0) (each_stands found.0 found.1) in
      let node : (get_or ends there.0 no_end).node ≡ a = ap (λ (x : End). x.node) (there.2 no_end) ∙ found.2 in
      elim (cases_lt there.0 place) [
        | inl before ↦ (let l = is.before there.0 before in omega (arith, l, node))
        | inr behind ↦ (
            let l = there.1 in
            let within : place < length ends = omega (arith, l, behind) in
            let low = is.behind place (omega arith) within in
            let high = are.ascend place there.0 no_end behind l in
            let same : (get_or ends place no_end).node ≡ a = omega (arith, low, high, node) in
            other within same)
      ])

  -- ---- a node that stands twice
  nodes_in_order : map (λ e. e.node) in_order ≡ ends_of pairs
  nodes_in_order =
      let n = length pairs in
      same_lists (map (λ (e : End). e.node) in_order) (ends_of pairs)
      (length-map in_order (λ (e : End). e.node) ∙ length_below (end_at pairs) n ∙ sym (length-map pairs (λ p. p.1)))
      (λ k d l.
      let within : k < n = omega (arith, l, length-map in_order (λ (e : End). e.node), length_below (end_at pairs) n) in
      get_or-map (λ (e : End). e.node) in_order k no_end d (omega (arith, within, length_below (end_at pairs) n))
      ∙ ap (λ (e : End). e.node) (get_below (end_at pairs) n k no_end within)
      ∙ sym (get_or-map (λ (p : Pair). p.1) pairs k (0, 0) d within))

  abbrev nodes : List ℕ
  nodes = map (λ e. e.node) ends

  permuted : IsPermutation (ends_of pairs) nodes
  permuted = subst (λ xs. IsPermutation xs nodes) nodes_in_order (IsPermutation-map (λ e. e.node) in_order ends are.all)

  node_at : (k : ℕ) → k < length ends → get_or nodes k 0 ≡ (get_or ends k no_end).node
  node_at k l = get_or-map (λ (e : End). e.node) ends k no_end 0 l

  -- a test of the nodes, in either order
  pub some_end : (test : ℕ → Bool) → list_any test (ends_of pairs) ≡ list_any (λ e. test e.node) ends
  some_end test = list_any-IsPermutation test (ends_of pairs) nodes permuted ∙ list_any-map test (λ (e : End). e.node) ends

  repeated_twice : is_repeated ends ≡ true → has_twice nodes ≡ true
  repeated_twice e =
      let found = some_place (is_repeated_at ends) (numbers_below (length ends - 1)) 0 e in
      let size = length-range_with_len 0 (length ends - 1) in
      let low = found.1 in
      let at : get_or (numbers_below (length ends - 1)) found.0 0 ≡ found.0 = get_or-range_with_len 0 (length ends - 1) found.0 0 (omega (arith, low, size))
      ∙ omega arith in
      let here = subst (λ k. is_repeated_at ends k ≡ true) at found.2 in
      let same = eqb-true (get_or ends found.0 no_end).node (get_or ends (found.0 + 1) no_end).node here in
      true_from_ne_false (has_twice nodes) (λ once.
      once_each nodes found.0 (found.0 + 1) once (omega arith) (omega (arith, low, size, length-map ends (λ (x : End). x.node)))
      (node_at found.0 (omega (arith, low, size)) ∙ same ∙ sym (node_at (found.0 + 1) (omega (arith, low, size)))))

  not_repeated_once : is_repeated ends ≡ false → has_twice nodes ≡ false
  not_repeated_once e = false_from_ne_true (has_twice nodes) (λ twice.
      let two = two_places nodes twice in
      let i = two.first in
      let j = two.second in
      let apart = two.apart in
      let size = length-map ends (λ (x : End). x.node) in
      let within : j < length ends = let l = two.within in omega (arith, l, size) in
      let same : (get_or ends i no_end).node ≡ (get_or ends j no_end).node = sym (node_at i (omega (arith, apart, within))) ∙ two.same ∙ node_at j within in
      let low = are.ascend i (i + 1) no_end (omega arith) (omega (arith, apart, within)) in
      let high = are.ascend (i + 1) j no_end (omega (arith, apart)) within in
      let next : (get_or ends i no_end).node ≡ (get_or ends (i + 1) no_end).node = omega (arith, same, low, high) in
      both_ways (is_repeated ends) e
      (some_below (is_repeated_at ends) (length ends - 1) i (omega (arith, apart, within))
      (eq-eqb (get_or ends i no_end).node (get_or ends (i + 1) no_end).node next)))

  repeated_as : (t : Bool) → is_repeated ends ≡ t → has_twice nodes ≡ t
  repeated_as true e = repeated_twice e
  repeated_as false e = not_repeated_once e

  pub repeated : has_twice (ends_of pairs) ≡ is_repeated ends
  repeated = twice_permuted (ends_of pairs) nodes permuted (is_repeated ends) (repeated_as (is_repeated ends) refl)
