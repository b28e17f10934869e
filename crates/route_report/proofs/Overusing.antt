-- The overused nodes, and the nets on them.
use Rattle.std.proofs.Common.{◌≡◌, ◌≢◌, ℕ, ◌+◌, ◌-◌, ◌<◌, ◌≤◌, ◌==◌, Bool, true, false, inl, inr, List, [], ◌∷◌, ◌++◌, length, get_or, set, Option, Some, None, All, refl, sym, ap, ap₂, ◌∙◌, subst, arith, if◌then◌else◌, map, nat_lt, Result, Ok, Err}
use Rattle.std.specs.Prelude.{◌||◌, take}
use Rattle.std.specs.List.{filter}
use Rattle.std.specs.List.Sorted.{IsStrictlyIncreasing, IsBinarySearchResult}
use Rattle.std.specs.Ordering.{nat_cmp}
use Rattle.std.specs.Result.{MatchResult}
use Rattle.std.proofs.lemmas.List.Sorted.{searched}
use Rattle.std.proofs.lemmas.List.Kept.{AllPairs-from_increasing, IsStrictlyIncreasing-filter}
use Rattle.std.proofs.lemmas.Simd.{map-map}
use Rattle.std.specs.Option.{option_map}
use Rattle.std.proofs.lemmas.Bool.{cases_eq, cases_lt, eq-eqb, ne_eqb, eqb-true, both_ways}
use Rattle.std.proofs.lemmas.Bool.Decides.{nat_tests}
use Rattle.std.proofs.lemmas.Option.{same_Some, none-some}
use Rattle.std.proofs.lemmas.List.{append-nil, same_lists, get_or-map, length-map, length-set, get_or-set_same, get_or-set_other, get_or_default, get_or-take, length-take-le}
use Rattle.std.proofs.lemmas.List.Elements.{All-head, All-tail}
use Rattle.std.proofs.lemmas.List.Folds.{list_any_more, list_any_none}
use Rattle.routing_problem.specs.node.Node.{Node}
use Rattle.routing_problem.specs.Fabric.{Fabric, numbers_below}
use Rattle.routing_problem.specs.Nodes.{node_at, node_count_of, capacity_of}
use Rattle.routing_problem.specs.Problems.{RoutingProblem, net_in}
use Rattle.routing_problem.proofs.Ranges.{filter_next, get_below}
use Rattle.routing_problem.proofs.Ascending.{below_ascend, all_kept, kept_below, passes_there}
use Rattle.route_tree.specs.Legality.{is_among}
use Rattle.route_tree.proofs.Members.{contains_among, among_contains, rising}
use Rattle.route_tree.specs.Usage.{use_of, overuse_of, covers_by, room_of, Lists, list_in}
use Rattle.route_report.specs.Covered.{nodes_covered, uses_of}
use Rattle.route_report.specs.Overused.{Overuse, is_over, is_overused}
use Rattle.route_report.proofs.Covering.{same_filter}
use Rattle.std.proofs.lemmas.List.FromFn.{length-range_with_len, get_or-range_with_len}
use Rattle.std.specs.Cmp.{both_ways as same_test}
use Rattle.route_report.specs.kept.Overused.{bare, with_net, entry_to}

-- ---- the room of a node
pub room_is : (f : Fabric) (o : Option Node) (capacity : ℕ) → Some capacity ≡ option_map (capacity_of f) o → room_of f o ≡ capacity
room_is f (Some n) capacity e = sym (same_Some capacity (capacity_of f n) e)
room_is f None capacity e = absurd (none-some capacity (sym e))

pub no_room : (f : Fabric) (o : Option Node) → None ≡ option_map (capacity_of f) o → room_of f o ≡ 0
no_room f (Some n) e = absurd (none-some (capacity_of f n) e)
no_room f None e = refl

-- ---- lists
same_images : {X Y : Type 0} (f g : X → Y) (xs : List X) → All (λ x. f x ≡ g x) xs → map f xs ≡ map g xs
same_images f g [] same = refl
same_images f g (x ∷ xs) same =
    ap₂ (λ y ys. y ∷ ys) (All-head (λ x. f x ≡ g x) x xs same) (same_images f g xs (All-tail (λ x. f x ≡ g x) x xs same))

-- ---- a net more on the entry of one node
kept_by : (test : ℕ → Bool) (net : ℕ) (o : Overuse) → test o.node ≡ false → with_net test net o ≡ o
kept_by test net o e =
    ap (λ b. entry o (o.nets ++ (if b then net ∷ [] else []))) e ∙ ap (entry o) (append-nil o.nets)
  where
    entry : Overuse → List ℕ → Overuse
    entry o nets = record { node = o.node; used = o.used; capacity = o.capacity; nets = nets }

module _ (nodes : List ℕ) (node : ℕ) (up : IsStrictlyIncreasing nodes) where
  found : (i : ℕ) (r : Result ℕ ℕ) → r ≡ Ok i → IsBinarySearchResult (λ y. nat_cmp y node) nodes r → (i < length nodes) × (get_or nodes i 0 ≡ node)
  found i r e h = subst (λ r. MatchResult r (λ i. (i < length nodes) × (get_or nodes i 0 ≡ node)) (λ i. (i ≤ length nodes) × ((k : ℕ) → k < i → get_or nodes k 0 < node) × ((k : ℕ) → i ≤ k → k < length nodes → node < get_or nodes k 0))) e
      (searched nodes node r h (rising nodes up))

  missed : (i : ℕ) (r : Result ℕ ℕ) → r ≡ Err i → IsBinarySearchResult (λ y. nat_cmp y node) nodes r → (k : ℕ) → k < length nodes → get_or nodes k 0 ≢ node
  missed i r e h k l =
      let none = subst (λ r. MatchResult r (λ i. (i < length nodes) × (get_or nodes i 0 ≡ node)) (λ i. (i ≤ length nodes) × ((k : ℕ) → k < i → get_or nodes k 0 < node) × ((k : ℕ) → i ≤ k → k < length nodes → node < get_or nodes k 0))) e
      (searched nodes node r h (rising nodes up)) in
      λ same. elim (cases_lt k i) [
        | inl before ↦ (let low = none.1 k before in absurd (omega (arith, low, same)))
        | inr from ↦ (let high = none.2 k from l in absurd (omega (arith, high, same)))
      ]

  module _ (entries : List Overuse) (net : ℕ) (all : map (λ o. o.node) entries ≡ nodes) where
    size : length entries ≡ length nodes
    size = sym (length-map entries (λ o. o.node)) ∙ ap length all

    node_at_place : (k : ℕ) (d : Overuse) → k < length entries → (get_or entries k d).node ≡ get_or nodes k 0
    node_at_place k d l = sym (get_or-map (λ o. o.node) entries k d 0 l) ∙ ap (λ ns. get_or ns k 0) all

    image : (k : ℕ) (d : Overuse) → k < length entries → get_or (map (with_net (λ a. node == a) net) entries) k d ≡ with_net (λ a. node == a) net (get_or entries k d)
    image k d l = get_or-map (with_net (λ a. node == a) net) entries k d d l

    pub none_added : (i : ℕ) (r : Result ℕ ℕ) → r ≡ Err i → IsBinarySearchResult (λ y. nat_cmp y node) nodes r → entries ≡ map (with_net (λ a. node == a) net) entries
    none_added i r e h =
        same_lists entries (map (with_net (λ a. node == a) net) entries) (sym (length-map entries (with_net (λ a. node == a) net)))
        (λ k d l.
        let apart = missed i r e h k (omega (arith, l, size)) in
        let test : (node == (get_or entries k d).node) ≡ false = ne_eqb node _ (λ e. apart (sym (node_at_place k d l) ∙ sym e)) in
        sym (image k d l ∙ kept_by (λ a. node == a) net (get_or entries k d) test))

    pub one_added : (i : ℕ) (r : Result ℕ ℕ) (old new : Overuse) → r ≡ Ok i → IsBinarySearchResult (λ y. nat_cmp y node) nodes r → old ≡ get_or entries i old → new ≡ with_net (λ _. true) net (get_or entries i old) →
        set entries i new ≡ map (with_net (λ a. node == a) net) entries
    one_added i r old new e h read more =
        let added = more ∙ ap (with_net (λ _. true) net) (sym read) in
        let place = found i r e h in
        let there : i < length entries = (let l = place.0 in omega (arith, l, size)) in
        same_lists (set entries i new) (map (with_net (λ a. node == a) net) entries) (length-set entries i new ∙ sym (length-map entries (with_net (λ a. node == a) net)))
        (λ k d l.
        let low : k < length entries = omega (arith, l, length-set entries i new) in
        elim (cases_eq k i) [
          | inl same ↦ (
              let test : (node == old.node) ≡ true = eq-eqb node old.node (sym (ap (λ (o : Overuse). o.node) read ∙ node_at_place i old there ∙ place.1)) in
              let here : with_net (λ a. node == a) net old ≡ new = ap (λ b. with_net (λ _. b) net old) test ∙ sym added in
              let is : get_or entries i d ≡ old = get_or_default entries i d old there ∙ sym read in
              ap (λ j. get_or (set entries i new) j d) same ∙ get_or-set_same entries i new d there
              ∙ sym (image k d low ∙ ap (λ j. with_net (λ a. node == a) net (get_or entries j d)) same ∙ ap (with_net (λ a. node == a) net) is ∙ here))
          | inr apart ↦ (
              let other : get_or nodes k 0 ≢ node = λ e. elim (cases_lt k i) [
                | inl before ↦ (let less = AllPairs-from_increasing nodes up k i 0 before place.0 in absurd (omega (arith, less, e, place.1)))
                | inr from ↦ (let less = AllPairs-from_increasing nodes up i k 0 (omega (arith, from, apart)) (omega (arith, low, size)) in absurd (omega (arith, less, e, place.1)))
              ] in
              let test : (node == (get_or entries k d).node) ≡ false = ne_eqb node _ (λ e. other (sym (node_at_place k d low) ∙ sym e)) in
              get_or-set_other entries i k new d apart ∙ sym (image k d low ∙ kept_by (λ a. node == a) net (get_or entries k d) test))
        ])

-- ---- a net more on the entries of the nodes of a list
first_time : (covered : List ℕ) → IsStrictlyIncreasing covered → (i : ℕ) → i < length covered → is_among (take i covered) (get_or covered i 0) ≡ false
first_time covered up i l =
    list_any_none (λ x. x == get_or covered i 0) (take i covered)
    (λ k d low.
    let size = length-take-le i covered (let m : i < length covered = l in omega (arith, m)) in
    let before : k < i = omega (arith, low, size) in
    let less = AllPairs-from_increasing covered up k i 0 before l in
    let is : get_or (take i covered) k d ≡ get_or covered k 0 = get_or-take i covered k d before ∙ get_or_default covered k d 0 (omega (arith, before, l)) in
    ne_eqb _ (get_or covered i 0) (λ e. absurd (omega (arith, less, is, e))))

pub none_yet : (net : ℕ) (entries : List Overuse) → entries ≡ map (with_net (is_among []) net) entries
none_yet net [] = refl
none_yet net (o ∷ os) = ap₂ (λ x xs. x ∷ xs) (sym (kept_by (λ _. false) net o refl)) (none_yet net os)

pub same_nodes : (test : ℕ → Bool) (net : ℕ) (entries : List Overuse) → map (λ o. o.node) (map (with_net test net) entries) ≡ map (λ o. o.node) entries
same_nodes test net entries = map-map (λ (o : Overuse). o.node) (with_net test net) entries

twice : (net : ℕ) (o : Overuse) (a b : Bool) → (b ≡ true → a ≡ false) → with_net (λ _. b) net (with_net (λ _. a) net o) ≡ with_net (λ _. a || b) net o
twice net o true true h = absurd (both_ways true (h refl) refl)
twice net o true false h = kept_by (λ _. false) net (with_net (λ _. true) net o) refl
twice net o false b h = ap (with_net (λ _. b) net) (kept_by (λ _. false) net o refl)

pub added_next : (net : ℕ) (covered : List ℕ) → IsStrictlyIncreasing covered → (i : ℕ) → i < length covered → (old now new : List Overuse) →
    now ≡ map (with_net (is_among (take i covered)) net) old → new ≡ map (with_net (λ a. get_or covered i 0 == a) net) now →
    new ≡ map (with_net (is_among (take (i + 1) covered)) net) old
added_next net covered up i l old now new before more =
    let c = get_or covered i 0 in
    more ∙ ap (map (with_net (λ a. c == a) net)) before
    ∙ map-map (with_net (λ a. c == a) net) (with_net (is_among (take i covered)) net) old
    ∙ same_images (λ o. with_net (λ a. c == a) net (with_net (is_among (take i covered)) net o)) (with_net (is_among (take (i + 1) covered)) net) old
    (λ k d low.
    let o = get_or old k d in
    twice net o (is_among (take i covered) o.node) (c == o.node)
    (λ e. ap (is_among (take i covered)) (sym (eqb-true c o.node e)) ∙ first_time covered up i l)
    ∙ ap (λ b. with_net (λ _. b) net o) (sym (list_any_more (λ x. x == o.node) covered i 0 l)))

-- ---- one net more
among_covered : (p : RoutingProblem) (lists : Lists) (i a : ℕ) → a < node_count_of p.device → is_among (nodes_covered p lists i) a ≡ covers_by (net_in p.nets i) (list_in lists i) a
unfolding nodes_covered
among_covered p lists i a l =
    let test = covers_by (net_in p.nets i) (list_in lists i) in
    let n = node_count_of p.device in
    same_test (is_among (filter test (numbers_below n)) a) (test a) (λ e. passes_there test (numbers_below n) a (among_contains (filter test (numbers_below n)) a e))
    (λ e. contains_among (filter test (numbers_below n)) a (kept_below test n a l e))

pub covered_ascends : (p : RoutingProblem) (lists : Lists) (i : ℕ) → IsStrictlyIncreasing (nodes_covered p lists i)
unfolding nodes_covered
covered_ascends p lists i = IsStrictlyIncreasing-filter (covers_by (net_in p.nets i) (list_in lists i)) (numbers_below (node_count_of p.device)) (below_ascend (node_count_of p.device))

pub entry_nodes : (p : RoutingProblem) (lists : Lists) (i : ℕ) (nodes : List ℕ) → map (λ o. o.node) (map (entry_to p lists i) nodes) ≡ nodes
entry_nodes p lists i [] = refl
entry_nodes p lists i (a ∷ ns) = ap (λ xs. a ∷ xs) (entry_nodes p lists i ns)

entry_next : (p : RoutingProblem) (lists : Lists) (i a : ℕ) → a < node_count_of p.device → with_net (is_among (nodes_covered p lists i)) i (entry_to p lists i a) ≡ entry_to p lists (i + 1) a
entry_next p lists i a l =
    let test = λ (j : ℕ). covers_by (net_in p.nets j) (list_in lists j) a in
    ap (λ b. with_net (λ _. b) i (entry_to p lists i a)) (among_covered p lists i a l)
    ∙ ap (λ nets. record { node = a; used = use_of p.nets lists a; capacity = room_of p.device (node_at p.device a); nets = nets }) (sym (filter_next test i))

pub entries_next : (p : RoutingProblem) (lists : Lists) (i : ℕ) (nodes : List ℕ) (now new : List Overuse) → All (λ a. a < node_count_of p.device) nodes →
    now ≡ map (entry_to p lists i) nodes → new ≡ map (with_net (is_among (nodes_covered p lists i)) i) now → new ≡ map (entry_to p lists (i + 1)) nodes
entries_next p lists i nodes now new there before more =
    more ∙ ap (map (with_net (is_among (nodes_covered p lists i)) i)) before
    ∙ map-map (with_net (is_among (nodes_covered p lists i)) i) (entry_to p lists i) nodes
    ∙ same_images (λ a. with_net (is_among (nodes_covered p lists i)) i (entry_to p lists i a)) (entry_to p lists (i + 1)) nodes
    (λ k d low. entry_next p lists i (get_or nodes k d) (there k d low))

-- ---- from counts to the definition
module _ (p : RoutingProblem) (lists : Lists) (uses : List ℕ) (are : uses ≡ uses_of p lists) where
  count_is : (a : ℕ) → a < node_count_of p.device → get_or uses a 0 ≡ use_of p.nets lists a
  unfolding uses_of
  count_is a l = ap (λ us. get_or us a 0) are ∙ get_below (use_of p.nets lists) (node_count_of p.device) a 0 l

  pub nodes_are : filter (is_over p.device uses) (numbers_below (node_count_of p.device)) ≡ filter (is_overused p lists) (numbers_below (node_count_of p.device))
  unfolding overuse_of
  nodes_are =
      same_filter (is_over p.device uses) (is_overused p lists) (node_count_of p.device)
      (λ a l. ap (nat_lt (room_of p.device (node_at p.device a))) (count_is a l) ∙ above (room_of p.device (node_at p.device a)) (use_of p.nets lists a))
    where
      above : (room used : ℕ) → nat_lt room used ≡ nat_lt 0 (used - room)
      above room used = grind (arith, nat_tests)

  pub bare_are : (nodes : List ℕ) → All (λ a. a < node_count_of p.device) nodes → map (bare p.device uses) nodes ≡ map (entry_to p lists 0) nodes
  bare_are nodes there =
      same_images (bare p.device uses) (entry_to p lists 0) nodes
      (λ k d l.
      let a = get_or nodes k d in
      ap (λ used. record { node = a; used = used; capacity = room_of p.device (node_at p.device a); nets = [] }) (count_is a (there k d l)))

pub over_there : (f : Fabric) (uses : List ℕ) → All (λ a. a < node_count_of f) (filter (is_over f uses) (numbers_below (node_count_of f)))
over_there f uses =
    all_kept (is_over f uses) (λ a. a < node_count_of f) (numbers_below (node_count_of f))
    (λ k d l e.
    let low : k < node_count_of f = omega (arith, l, length-range_with_len 0 (node_count_of f)) in
    let is = get_or-range_with_len 0 (node_count_of f) k d low in
    omega (arith, is, low))

pub over_ascends : (f : Fabric) (uses : List ℕ) → IsStrictlyIncreasing (filter (is_over f uses) (numbers_below (node_count_of f)))
over_ascends f uses = IsStrictlyIncreasing-filter (is_over f uses) (numbers_below (node_count_of f)) (below_ascend (node_count_of f))
