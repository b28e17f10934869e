-- A book in which each net has a tree and no node is overused holds a routing of its problem.
use Rattle.std.proofs.Common.{◌≡◌, ℕ, ◌<◌, ◌≤◌, nat_lt, inl, inr, List, length, get_or, Option, None, Some, is_none, refl, sym, ap, ◌∙◌, arith, zero-add}
use Rattle.std.proofs.lemmas.Bool.{cases_lt}
use Rattle.std.proofs.lemmas.Bool.Decides.{nat_tests}
use Rattle.std.proofs.lemmas.List.{get_or_past}
use Rattle.std.proofs.lemmas.List.FromFn.{length-range_with_len, get_or-range_with_len}
use Rattle.std.proofs.lemmas.List.Sums.{get_or-le-sum_by}
use Rattle.routing_problem.specs.Fabric.{numbers_below}
use Rattle.route_tree.specs.Paths.{Pair}
use Rattle.route_tree.specs.Usage.{use_of, overuse_of, list_in}
use Rattle.route_check.specs.Routed.{IsNetRouted, IsRouted}
use Rattle.congestion_book.specs.Turns.{one_if}
use Rattle.congestion_book.specs.Recorded.{unrouted_in, overused_in}
use Rattle.congestion_book.specs.Contents.{Content, IsSound, node_total}
use Rattle.iteration.specs.Progress.{unrouted_of, overused_of}

some_list : (l : Option (List Pair)) → one_if (is_none l) ≤ 0 → (pairs : List Pair) × (l ≡ Some pairs)
some_list (Some pairs) none = (pairs, refl)
some_list None none = absurd (omega (arith, none))

module _ (c : Content) (sound : IsSound c) where
  has_list : unrouted_of c ≡ 0 → (i : ℕ) → i < length c.lists → (pairs : List Pair) × (list_in c.lists i ≡ Some pairs)
  unfolding unrouted_in
  has_list none i low =
      let few = get_or-le-sum_by (λ (l : Option (List Pair)). one_if (is_none l)) c.lists i None low in
      some_list (list_in c.lists i) (omega (arith, few, none))

  net_routed : unrouted_of c ≡ 0 → (i : ℕ) → i < length c.problem.nets → IsNetRouted c.problem c.lists i
  net_routed none i low =
      let has = has_list none i (omega (arith, low, sound.one_each)) in
      (has.0, has.1, sound.routes i has.0 has.1)

  none_past : (a : ℕ) → node_total c ≤ a → overuse_of c.problem c.lists a ≡ 0
  unfolding overuse_of
  none_past a past =
      let none : use_of c.problem.nets c.lists a ≡ 0 = sym (sound.uses a) ∙ get_or_past c.occupancies a 0 (omega (arith, past, sound.occupied)) in
      omega (arith, none)

  none_over : overused_of c ≡ 0 → (a : ℕ) → a < node_total c → overuse_of c.problem c.lists a ≡ 0
  unfolding overused_in
  none_over none a low =
      let is_over = λ (b : ℕ). one_if (nat_lt 0 (overuse_of c.problem c.lists b)) in
      let at : get_or (numbers_below (node_total c)) a 0 ≡ a = get_or-range_with_len 0 (node_total c) a 0 low ∙ zero-add a in
      let few = get_or-le-sum_by is_over (numbers_below (node_total c)) a 0 (omega (arith, low, length-range_with_len 0 (node_total c))) in
      let here : is_over (get_or (numbers_below (node_total c)) a 0) ≡ is_over a = ap is_over at in
      let zero : one_if (nat_lt 0 (overuse_of c.problem c.lists a)) ≤ 0 = omega (arith, few, none, here) in
      grind (arith, nat_tests, zero)

  pub routed_by : unrouted_of c ≡ 0 → overused_of c ≡ 0 → IsRouted c.problem c.lists
  routed_by listed fits = record {
    one_each = sound.one_each;
    routed = net_routed listed;
    within = λ a. elim (cases_lt a (node_total c)) [ inl low ↦ none_over fits a low | inr past ↦ none_past a past ];
  }
