-- What a net sees of the others.
use Rattle.std.proofs.Common.{◌≡◌, inl, inr, ℕ, ◌+◌, ◌-◌, ◌<◌, ◌≤◌, ◌==◌, List, [], ◌∷◌, length, get_or, set, Option, refl, sym, ap, ◌∙◌, arith, length-set, get_or-set_other}
use Rattle.std.specs.Prelude.{take, map}
use Rattle.std.proofs.lemmas.Bool.{cases_eq, eq-eqb, ne_eqb}
use Rattle.std.proofs.lemmas.Grind.{get_or-set_at}
use Rattle.std.proofs.lemmas.List.Sums.{sum_by-cons}
use Rattle.node_cost.specs.Views.{NodeView, others_in, history_in, NetView}
use Rattle.node_cost.proofs.Views.{length_seen, others_at, history_at}
use Rattle.std.specs.List.{zip}
use Rattle.routing_problem.specs.Problems.{RoutingProblem, net_in}
use Rattle.route_tree.specs.Paths.{Pair}
use Rattle.route_tree.specs.Rows.{no_row}
use Rattle.route_tree.specs.declared.tree.Row.{Row}
use Rattle.route_tree.specs.kept.Marked.{nodes_of}
use Rattle.congestion_book.specs.Turns.{one_if}
use Rattle.congestion_book.specs.kept.Usage.{times_in}
use Rattle.congestion_book.specs.kept.Views.{LeavesOut, SeesOthers}
use Rattle.std.proofs.lemmas.List.{same_lists, get_or_default}
use Rattle.routing_problem.specs.Fabric.{numbers_below}
use Rattle.routing_problem.proofs.Ranges.{length_below, get_below}
use Rattle.route_tree.specs.Usage.{use_of, use_by, use_by_others, list_in}
use Rattle.route_tree.proofs.Uses.{others_and_own}
use Rattle.congestion_book.specs.Histories.{history_of}
use Rattle.congestion_book.specs.Contents.{Content, IsSound, net_count, node_total, view_of}
use Rattle.congestion_book.proofs.Counting.{next, times_next, times_within}

pub leaves_one : (old new : NetView) (id : ℕ) → id < length old → 1 ≤ others_in old id →
    new ≡ set old id (others_in old id - 1, history_in old id) → LeavesOut (id ∷ []) old new
leaves_one old new id low used is =
    let seen : NodeView = (others_in old id - 1, history_in old id) in
    record {
      size = ap length is ∙ length-set old id seen;
      others = λ a.
          let last : times_in (id ∷ []) a ≡ one_if (id == a) + 0 = sum_by-cons (λ b. one_if (b == a)) id [] in
          let same : others_in new a ≡ others_in (set old id seen) a = ap (λ v. others_in v a) is in
          elim (cases_eq a id) [
            | inl e ↦
                let at : others_in (set old id seen) a ≡ others_in old id - 1 = ap (λ (s : NodeView). s.0) (get_or-set_at old id a seen (0, 0) e low) in
                let before : others_in old a ≡ others_in old id = ap (others_in old) e in
                let one : one_if (id == a) ≡ 1 = ap one_if (eq-eqb id a (sym e)) in
                omega (arith, last, same, at, before, one, used)
            | inr apart ↦
                let kept : others_in (set old id seen) a ≡ others_in old a = ap (λ (s : NodeView). s.0) (get_or-set_other old id a seen (0, 0) apart) in
                let none : one_if (id == a) ≡ 0 = ap one_if (ne_eqb id a (λ e. apart (sym e))) in
                omega (arith, last, same, kept, none)
          ];
      histories = λ a. ap (λ v. history_in v a) is ∙ elim (cases_eq a id) [
        | inl e ↦ ap (λ (s : NodeView). s.1) (get_or-set_at old id a seen (0, 0) e low) ∙ ap (history_in old) (sym e)
        | inr apart ↦ ap (λ (s : NodeView). s.1) (get_or-set_other old id a seen (0, 0) apart)
      ];
    }

-- one net more uses a node
pub leaves_back : (old new : NetView) (id : ℕ) → id < length old → new ≡ set old id (others_in old id + 1, history_in old id) → LeavesOut (id ∷ []) new old
leaves_back old new id low is =
    let seen : NodeView = (others_in old id + 1, history_in old id) in
    record {
      size = sym (ap length is ∙ length-set old id seen);
      others = λ a.
          let last : times_in (id ∷ []) a ≡ one_if (id == a) + 0 = sum_by-cons (λ b. one_if (b == a)) id [] in
          let same : others_in new a ≡ others_in (set old id seen) a = ap (λ v. others_in v a) is in
          elim (cases_eq a id) [
            | inl e ↦
                let at : others_in (set old id seen) a ≡ others_in old id + 1 = ap (λ (s : NodeView). s.0) (get_or-set_at old id a seen (0, 0) e low) in
                let before : others_in old a ≡ others_in old id = ap (others_in old) e in
                let one : one_if (id == a) ≡ 1 = ap one_if (eq-eqb id a (sym e)) in
                omega (arith, last, same, at, before, one)
            | inr apart ↦
                let kept : others_in (set old id seen) a ≡ others_in old a = ap (λ (s : NodeView). s.0) (get_or-set_other old id a seen (0, 0) apart) in
                let none : one_if (id == a) ≡ 0 = ap one_if (ne_eqb id a (λ e. apart (sym e))) in
                omega (arith, last, same, kept, none)
          ];
      histories = λ a. sym (ap (λ v. history_in v a) is ∙ elim (cases_eq a id) [
        | inl e ↦ ap (λ (s : NodeView). s.1) (get_or-set_at old id a seen (0, 0) e low) ∙ ap (history_in old) (sym e)
        | inr apart ↦ ap (λ (s : NodeView). s.1) (get_or-set_other old id a seen (0, 0) apart)
      ]);
    }

-- the next node of a tree is used by a net
pub used_next : (old now : NetView) (rows : List Row) (k : ℕ) → k < length rows → LeavesOut (nodes_of (take k rows)) old now →
    ((a : ℕ) → times_in (nodes_of rows) a ≤ others_in old a) → 1 ≤ others_in now (get_or rows k no_row).node
used_next old now rows k low so_far used =
    let a = next rows k low in
    let here : one_if (a == a) ≡ 1 = ap one_if (eq-eqb a a refl) in
    omega (arith, here, so_far.others a, used a, times_next rows k low a, times_within (k + 1) rows a)

-- there is room for a net more at the next node of a tree
pub room_next : (old now : NetView) (rows : List Row) (k : ℕ) → k < length rows → LeavesOut (nodes_of (take k rows)) now old →
    ((a : ℕ) → others_in old a + times_in (nodes_of rows) a ≤ 65535) → others_in now (get_or rows k no_row).node < 65535
room_next old now rows k low so_far room =
    let a = next rows k low in
    let here : one_if (a == a) ≡ 1 = ap one_if (eq-eqb a a refl) in
    omega (arith, here, so_far.others a, room a, times_next rows k low a, times_within (k + 1) rows a)

-- what a view shows of counts and histories, when a net is left out
pub sees_others : {p : RoutingProblem} {i : ℕ} {list : Option (List Pair)} {counts histories nodes : List ℕ} {view : NetView} →
    ((a : ℕ) → use_by (net_in p.nets i) list a ≡ times_in nodes a) → length histories ≡ length counts →
    LeavesOut nodes (zip counts histories) view → SeesOthers p i list counts histories view
sees_others {counts = counts} {histories = histories} {view = view} uses same leaves = record {
  size = leaves.size ∙ length_seen counts histories same;
  others = λ a. ap (λ k. others_in view a + k) (uses a) ∙ leaves.others a ∙ others_at counts histories a same;
  remembered = λ a. leaves.histories a ∙ history_at counts histories a same;
}

-- ---- the view of a net
module _ (c : Content) (i : ℕ) (low : i < net_count c) (entry : i < length c.lists) where
  abbrev shown : ℕ → NodeView
  shown a = (use_by_others c.problem.nets c.lists i a, history_of c.acc c.rows a)

  -- a view of all uses but the net's own
  module _ (view : NetView) (size : length view ≡ node_total c)
      (others : (a : ℕ) → others_in view a + use_by (net_in c.problem.nets i) (list_in c.lists i) a ≡ use_of c.problem.nets c.lists a)
      (remembered : (a : ℕ) → a < node_total c → history_in view a ≡ history_of c.acc c.rows a) where
    seen_at : (a : ℕ) → a < node_total c → get_or view a (0, 0) ≡ shown a
    seen_at a l =
        let all = others_and_own c.problem.nets c.lists i a low entry in
        let few : others_in view a ≡ use_by_others c.problem.nets c.lists i a = omega (arith, all, others a) in
        let history : history_in view a ≡ history_of c.acc c.rows a = remembered a l in
        λ k. (few k, history k)

    pub view_by : view ≡ view_of c i
    unfolding view_of
    view_by =
        same_lists view (map shown (numbers_below (node_total c))) (size ∙ sym (length_below shown (node_total c)))
        (λ k d l.
        let within : k < node_total c = omega (arith, l, size) in
        get_or_default view k d (0, 0) l ∙ (seen_at k within ∙ sym (get_below shown (node_total c) k d within)))

  pub view_size : length (view_of c i) ≡ node_total c
  unfolding view_of
  view_size = length_below shown (node_total c)

  pub view_others : (a : ℕ) → a < node_total c → others_in (view_of c i) a + use_by (net_in c.problem.nets i) (list_in c.lists i) a ≡ use_of c.problem.nets c.lists a
  unfolding view_of
  view_others a l =
      let at = ap (λ (s : NodeView). s.0) (get_below shown (node_total c) a (0, 0) l) in
      let all = others_and_own c.problem.nets c.lists i a low entry in
      omega (arith, at, all)

  pub view_history : (a : ℕ) → a < node_total c → history_in (view_of c i) a ≡ history_of c.acc c.rows a
  unfolding view_of
  view_history a l = ap (λ (s : NodeView). s.1) (get_below shown (node_total c) a (0, 0) l)

-- that of a sound book
pub view_is : (c : Content) (sound : IsSound c) (i : ℕ) (low : i < net_count c)
    (view : NetView) (sees : SeesOthers c.problem i (list_in c.lists i) c.occupancies c.histories view) → view ≡ view_of c i
view_is c sound i low view sees =
    view_by c i low (omega (arith, low, sound.one_each)) view (sees.size ∙ sound.occupied)
    (λ a. sees.others a ∙ sound.uses a) (λ a l. sees.remembered a ∙ sound.accumulated a l)
