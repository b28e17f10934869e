-- Counting the nodes of nets.
use Rattle.std.proofs.Common.{◌≡◌, ℕ, ◌+◌, ◌<◌, ◌≤◌, ◌==◌, zero, suc, Bool, true, false, cond, List, [], ◌∷◌, ◌++◌, length, get_or, Option, Some, None, inl, inr, refl, sym, ap, ap₂, ◌∙◌, subst, arith, add-one, add_assoc, drop}
use Rattle.std.specs.Prelude.{take, count_by}
use Rattle.std.proofs.lemmas.Bool.{eq-eqb}
use Rattle.std.proofs.lemmas.List.{length-map, length-take-le, take_more, take_all, get_or_default, take-append-drop, map-append}
use Rattle.std.proofs.lemmas.Option.{slice_get_cases}
use Rattle.std.proofs.lemmas.List.Elements.{All-cons, Contains-get_or}
use Rattle.std.proofs.lemmas.List.Sums.{sum_by-append}
use Rattle.routing_problem.specs.Fabric.{Fabric, IsFabric}
use Rattle.routing_problem.specs.Nodes.{nodes_of, node_count_of}
use Rattle.routing_problem.proofs.Capacities.{some_capacity}
use Rattle.routing_problem.specs.Problems.{Net, RoutingProblem, net_in, IsProblem}
use Rattle.route_tree.specs.Paths.{Pair, ends_of}
use Rattle.route_tree.specs.Usage.{covers, use_by, use_of, room_of, Lists, list_in}
use Rattle.route_tree.specs.Faults.{IsRoute}
use Rattle.route_tree.proofs.Uses.{few_uses}
use Rattle.route_tree.proofs.LegalLists.{counts_covered, covers_nodes, covers_source, covers_end}
use Rattle.route_tree.proofs.Members.{end_at}
use Rattle.route_check.specs.Routed.{IsNetRouted}
use Rattle.route_check.specs.kept.Ends.{end_in}
use Rattle.route_tree.specs.kept.Counting.{Counts}
use Rattle.route_tree.proofs.Counting.{one_more, counts_then}
use Rattle.route_check.specs.kept.Counted.{HasRoom, AreUses, excess_of}

-- ---- the ends of pairs, one by one
module _ (source : ℕ) (pairs : List Pair) where
  -- the source, and where the first pairs end
  abbrev pub nodes_to : ℕ → List ℕ
  nodes_to i = source ∷ ends_of (take i pairs)

  nodes_next : (i : ℕ) → i < length pairs → nodes_to i ++ end_in pairs i ∷ [] ≡ nodes_to (i + 1)
  nodes_next i l =
      ap (λ xs. source ∷ xs)
      (sym (ap ends_of (take_more pairs i (0, 0) l) ∙ map-append (λ (p : Pair). p.1) (take i pairs) (get_or pairs i (0, 0) ∷ [])))

  pub counts_next : (old counts new : List ℕ) (i : ℕ) → i < length pairs → Counts old (nodes_to i) counts → Counts counts (end_in pairs i ∷ []) new →
      Counts old (nodes_to (i + 1)) new
  counts_next old counts new i l so_far more =
      subst (λ xs. Counts old xs new) (nodes_next i l) (counts_then old counts new (nodes_to i) (end_in pairs i ∷ []) so_far more)

  pub counts_all : (old new : List ℕ) (i : ℕ) → length pairs ≤ i → Counts old (nodes_to i) new → Counts old (source ∷ ends_of pairs) new
  counts_all old new i all counts = subst (λ ps. Counts old (source ∷ ends_of ps) new) (take_all i pairs all) counts

  pub end_there : (old counts : List ℕ) (i : ℕ) → i < length pairs → HasRoom old (source ∷ ends_of pairs) → Counts old (nodes_to i) counts →
      end_in pairs i < length counts
  end_there old counts i l room so_far =
      let below = room.there (i + 1) 0 (omega (arith, l, length-map pairs (λ p. p.1))) in
      let at : get_or (source ∷ ends_of pairs) (i + 1) 0 ≡ end_in pairs i = ap (λ k. get_or (source ∷ ends_of pairs) k 0) (add-one i) ∙ end_at pairs i l in
      let size = so_far.size in
      omega (arith, below, at, size)

  whole : (i a : ℕ) → count_by (λ b. b == a) (source ∷ ends_of pairs) ≡ count_by (λ b. b == a) (nodes_to i) + count_by (λ b. b == a) (ends_of (drop i pairs))
  whole i a =
      ap (λ ps. count_by (λ b. b == a) (source ∷ ends_of ps)) (sym (take-append-drop i pairs))
      ∙ ap (λ xs. count_by (λ b. b == a) (source ∷ xs)) (map-append (λ (p : Pair). p.1) (take i pairs) (drop i pairs))
      ∙ sum_by-append (λ b. cond (b == a) 1 0) (nodes_to i) (ends_of (drop i pairs))

  pub end_room : (old counts : List ℕ) (i : ℕ) → i < length pairs → HasRoom old (source ∷ ends_of pairs) → Counts old (nodes_to i) counts →
      get_or counts (end_in pairs i) 0 < 65535
  end_room old counts i l room so_far =
      let e = end_in pairs i in
      let most = room.room e in
      let each = so_far.each e in
      let parts = whole (i + 1) e in
      let next = ap (count_by (λ b. b == e)) (sym (nodes_next i l)) ∙ sum_by-append (λ b. cond (b == e) 1 0) (nodes_to i) (e ∷ []) in
      let one = one_more e e true (eq-eqb e e refl) in
      omega (arith, most, each, parts, next, one)

-- ---- one net more
use_next : (nets : List Net) (lists : Lists) (i a : ℕ) → i < length nets → i < length lists →
    use_of (take (i + 1) nets) (take (i + 1) lists) a ≡ use_of (take i nets) (take i lists) a + use_by (net_in nets i) (list_in lists i) a
use_next [] lists i a l m = absurd (omega arith)
use_next (n ∷ ns) [] i a l m = absurd (omega arith)
use_next (n ∷ ns) (x ∷ xs) zero a l m = omega arith
use_next (n ∷ ns) (x ∷ xs) (suc i) a l m =
    let next : suc i + 1 ≡ suc (i + 1) = omega arith in
    ap (λ k. use_of (take k (n ∷ ns)) (take k (x ∷ xs)) a) next
    ∙ ap (λ k. use_by n x a + k) (use_next ns xs i a (omega arith) (omega arith))
    ∙ sym (add_assoc (use_by n x a) (use_of (take i ns) (take i xs) a) (use_by (net_in ns i) (list_in xs i) a))

-- a list that was read is that of its net
pub list_read : (lists : Lists) (i : ℕ) (x : Option (List Pair)) (pairs : List Pair) → i < length lists → x ≡ get_or lists i x → x ≡ Some pairs →
    list_in lists i ≡ Some pairs
list_read lists i x pairs l read e = get_or_default lists i None x l ∙ sym read ∙ e

pub routed_by : (p : RoutingProblem) (lists : Lists) (i : ℕ) (pairs : List Pair) → IsNetRouted p lists i → list_in lists i ≡ Some pairs → IsRoute p i pairs
routed_by p lists i pairs routed e = subst (IsRoute p i) (same (sym routed.1 ∙ e)) routed.2
  where
    same : {xs ys : List Pair} → Some xs ≡ Some ys → xs ≡ ys
    same e = cc

module _ (p : RoutingProblem) (keeps : IsProblem p) (lists : Lists) (i : ℕ) (there : i < length p.nets) (counts : List ℕ)
    (uses : AreUses p lists i counts) where
  module _ (pairs : List Pair) (route : IsRoute p i pairs) where
    abbrev n : Net
    n = net_in p.nets i

    covered_there : (a : ℕ) → covers n.source pairs a ≡ true → a < length counts
    covered_there a e = let below = covers_nodes p.device n pairs route.legal a e in let size = uses.size in omega (arith, below, size)

    pub room_for : HasRoom counts (n.source ∷ ends_of pairs)
    room_for = record {
      there = All-cons (λ a. a < length counts) n.source (ends_of pairs) (covered_there n.source (covers_source n.source pairs))
          (λ k d l. covered_there (get_or (ends_of pairs) k d) (covers_end n.source pairs (get_or (ends_of pairs) k d)
          (Contains-get_or (ends_of pairs) k d l)));
      room = λ a.
          let each = uses.each a in
          let few = few_uses (take i p.nets) (take i lists) a in
          let size = length-take-le i p.nets (let l : i < length p.nets = there in omega arith) in
          let once = counts_covered p.device n pairs route.legal a in
          let one = at_most (covers n.source pairs a) in
          let limit = keeps.few in
          omega (arith, each, few, size, once, one, limit);
    }
      where
        at_most : (b : Bool) → cond b 1 0 ≤ 1
        at_most true = omega arith
        at_most false = omega arith

    pub uses_more : i < length lists → list_in lists i ≡ Some pairs → (new : List ℕ) → Counts counts (n.source ∷ ends_of pairs) new →
        AreUses p lists (i + 1) new
    uses_more l e new counted = record {
      size = counted.size ∙ uses.size;
      each = λ a.
          counted.each a
          ∙ ap₂ (λ x y. x + y) (uses.each a) (counts_covered p.device n pairs route.legal a)
          ∙ sym (use_next p.nets lists i a there l ∙ ap (λ x. use_of (take i p.nets) (take i lists) a + use_by n x a) e);
    }

-- each node has room for one net
pub room_for_one : (f : Fabric) → IsFabric f → (counts : List ℕ) → length counts ≡ node_count_of f → (a : ℕ) → a < length counts →
    get_or counts a 0 ≤ 1 → 0 ≡ excess_of f counts a
room_for_one f within counts each a there few = elim (slice_get_cases (nodes_of f) a).1 [
  | inl found ↦ (
      let room = some_capacity f within a found.0 found.2 in
      let node = ap (room_of f) found.2 in
      omega (arith, few, room, node))
  | inr past ↦ (let beyond = past.0 in absurd (omega (arith, beyond, there, each)))
]
