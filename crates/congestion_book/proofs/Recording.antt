-- A net's recorded tree becomes another one, and what is kept stays exact.
use Rattle.std.proofs.Common.{◌≡◌, inl, inr, ℕ, ◌+◌, ◌-◌, ◌<◌, ◌≤◌, zero, suc, Bool, true, false, List, ◌∷◌, length, get_or, set, replicate, All, Option, Some, None, refl, sym, ap, subst, ◌∙◌, arith, length-set, get_or-set_other}
use Rattle.std.specs.Prelude.{is_none}
use Rattle.std.proofs.lemmas.Bool.{cases_eq}
use Rattle.std.proofs.lemmas.Grind.{get_or-set_at}
use Rattle.std.proofs.lemmas.List.{length-map, get_or-map, map-set, set-get_or, length-replicate}
use Rattle.std.proofs.lemmas.List.Sums.{sum_by-set, sum_by-cons, get_or-le-sum_by, count_by-le-length}
use Rattle.std.proofs.lemmas.Option.{none-some}
use Rattle.routing_problem.specs.Nodes.{node_count_of}
use Rattle.routing_problem.specs.Problems.{RoutingProblem, net_in, IsProblem}
use Rattle.route_tree.specs.declared.tree.Row.{Row}
use Rattle.route_tree.specs.Paths.{Pair}
use Rattle.route_tree.specs.Faults.{IsRoute}
use Rattle.route_tree.specs.kept.Marked.{nodes_of}
use Rattle.route_tree.specs.Usage.{use_by, use_of, Lists, list_in}
use Rattle.route_tree.specs.TreeLists.{list_of_tree, lists_of_trees}
use Rattle.route_tree.proofs.Uses.{use_replaced, own_within, few_uses, unused}
use Rattle.congestion_book.proofs.Counting.{none_overused}
use Rattle.congestion_book.specs.Turns.{one_if}
use Rattle.congestion_book.specs.kept.Usage.{overused_by, times_in, ReplacesEach, HasRoomInPlace}
use Rattle.congestion_book.specs.kept.Views.{stands_in}
use Rattle.congestion_book.proofs.Covering.{uses_rows, uses_standing, rows_within}
use Rattle.congestion_book.specs.Recorded.{AreRoutes, RoutesOrNone, occupancies_of, unrouted_in}
use Rattle.congestion_book.specs.kept.Counts.{IsTreeOrNone, rows_of, AreRecorded}
use Rattle.route_report.proofs.Counting.{listed_below, zeros}

-- counts that are exact are the occupancies by the lists
pub occupied_by : (p : RoutingProblem) (lists : Lists) (counts : List ℕ) (overused unrouted : ℕ) → AreRecorded p lists counts overused unrouted →
    counts ≡ occupancies_of p lists
unfolding occupancies_of
occupied_by p lists counts overused unrouted kept = listed_below (λ a. use_of p.nets lists a) (node_count_of p.device) counts kept.size (λ a l. kept.uses a)

none_alike : (t : Option (List Row)) → is_none (list_of_tree t) ≡ is_none t
none_alike None = refl
none_alike (Some rows) = refl

-- what routes a net, or is none, is what a list may be
route_here : (p : RoutingProblem) (i : ℕ) (l : Option (List Pair)) (pairs : List Pair) → RoutesOrNone p i l → l ≡ Some pairs → IsRoute p i pairs
route_here p i (Some ps) pairs h e = subst (RoutesOrNone p i) e h
route_here p i None pairs h e = cc

pub route_there : (p : RoutingProblem) (i : ℕ) (l : Option (List Pair)) → ((pairs : List Pair) → l ≡ Some pairs → IsRoute p i pairs) → RoutesOrNone p i l
route_there p i (Some pairs) h = h pairs refl
route_there p i None h = tt

-- each list routes its net, also where one net has another one that does
pub routes_set : (p : RoutingProblem) (lists : Lists) (i : ℕ) (l : Option (List Pair)) → i < length lists → AreRoutes p lists → RoutesOrNone p i l → AreRoutes p (set lists i l)
routes_set p lists i l entry routes next j pairs e = elim (cases_eq j i) [
  | inl here ↦ subst (λ k. IsRoute p k pairs) (sym here) (route_here p i l pairs next (sym (get_or-set_at lists i j l None here entry) ∙ e))
  | inr apart ↦ routes j pairs (sym (get_or-set_other lists i j l None apart) ∙ e)
]

module _ {p : RoutingProblem} (trees : List (Option (List Row))) {counts : List ℕ} {overused unrouted i : ℕ} {before : Option (List Row)}
    (low : i < length p.nets) (kept : AreRecorded p (lists_of_trees trees) counts overused unrouted) (is : before ≡ get_or trees i before) where
  abbrev lists : Lists
  lists = lists_of_trees trees

  entry : i < length lists
  entry = omega (arith, low, kept.one_each)

  there : i < length trees
  there = let same = length-map trees list_of_tree in omega (arith, entry, same)

  pub listed : get_or lists i None ≡ list_of_tree before
  listed = get_or-map list_of_tree trees i before None there ∙ ap list_of_tree (sym is)

  routes : RoutesOrNone p i (list_of_tree before)
  routes = route_there p i (list_of_tree before) (λ pairs e. kept.routes i pairs (listed ∙ e))

  pub few_without : unrouted ≤ 65535
  unfolding unrouted_in
  few_without = let few = count_by-le-length is_none lists in omega (arith, few, kept.one_each, kept.without, kept.problem.few)

  pub none_less : (less : ℕ) → less ≡ one_if (is_none before) → less ≤ unrouted
  unfolding unrouted_in
  none_less less e =
      let one = get_or-le-sum_by (λ (l : Option (List Pair)). one_if (is_none l)) lists i None entry in
      let old : one_if (is_none (get_or lists i None)) ≡ one_if (is_none before) = ap (λ l. one_if (is_none l)) listed ∙ ap one_if (none_alike before) in
      omega (arith, one, old, kept.without, e)

  -- where the net's tree stays the same
  pub kept_lists : (after : Option (List Row)) → before ≡ after → lists ≡ set lists i (list_of_tree after)
  kept_lists after same = sym (ap (set lists i) (ap list_of_tree (sym same) ∙ sym listed) ∙ set-get_or lists i None)

  -- ---- the rows of the net's own tree
  module _ {own : List Row} (rows : own ≡ rows_of before) (tree : IsTreeOrNone before) where
    pub own_uses : (a : ℕ) → use_by (net_in p.nets i) (list_in lists i) a ≡ times_in (nodes_of own) a
    own_uses a = ap (λ l. use_by (net_in p.nets i) l a) listed ∙ uses_rows p i before tree routes a ∙ ap (λ rs. times_in (nodes_of rs) a) (sym rows)

    pub own_stands : (a : ℕ) → use_by (net_in p.nets i) (list_in lists i) a ≡ one_if (stands_in own a)
    own_stands a = ap (λ l. use_by (net_in p.nets i) l a) listed ∙ uses_standing p i before tree routes a ∙ ap (λ rs. one_if (stands_in rs a)) (sym rows)

    pub own_there : All (λ r. r.node < node_count_of p.device) own
    own_there = subst (All (λ (r : Row). r.node < node_count_of p.device)) (sym rows) (rows_within p i before tree routes)

    pub own_used : (a : ℕ) → times_in (nodes_of own) a ≤ get_or counts a 0
    own_used a = omega (arith, own_within p.nets lists i a low entry, own_uses a, kept.uses a)

    pub own_used_once : (a : ℕ) → one_if (stands_in own a) ≤ get_or counts a 0
    own_used_once a = omega (arith, own_within p.nets lists i a low entry, own_stands a, kept.uses a)

    -- ---- and those of its next tree
    module _ (after : Option (List Row)) {next : List Row} (next_rows : next ≡ rows_of after) (next_tree : IsTreeOrNone after)
        (next_routes : RoutesOrNone p i (list_of_tree after)) where
      next_uses : (a : ℕ) → use_by (net_in p.nets i) (list_of_tree after) a ≡ times_in (nodes_of next) a
      next_uses a = uses_rows p i after next_tree next_routes a ∙ ap (λ rs. times_in (nodes_of rs) a) (sym next_rows)

      pub next_there : All (λ r. r.node < node_count_of p.device) next
      next_there = subst (All (λ (r : Row). r.node < node_count_of p.device)) (sym next_rows) (rows_within p i after next_tree next_routes)

      change : (a : ℕ) → use_of p.nets (set lists i (list_of_tree after)) a + times_in (nodes_of own) a ≡ use_of p.nets lists a + times_in (nodes_of next) a
      change a = omega (arith, use_replaced p.nets lists i (list_of_tree after) a low entry, own_uses a, next_uses a)

      pub room : HasRoomInPlace counts (nodes_of own) (nodes_of next)
      room a = omega (arith, change a, kept.uses a, kept.problem.few, few_uses p.nets (set lists i (list_of_tree after)) a)

      counted : unrouted_in (set lists i (list_of_tree after)) + one_if (is_none before) ≡ unrouted_in lists + one_if (is_none after)
      unfolding unrouted_in
      counted =
          let set = sum_by-set (λ (l : Option (List Pair)). one_if (is_none l)) lists i (list_of_tree after) None entry in
          let old : one_if (is_none (get_or lists i None)) ≡ one_if (is_none before) = ap (λ l. one_if (is_none l)) listed ∙ ap one_if (none_alike before) in
          let new : one_if (is_none (list_of_tree after)) ≡ one_if (is_none after) = ap one_if (none_alike after) in
          omega (arith, set, old, new)

      pub replaced : {new : List ℕ} {over : ℕ} → ReplacesEach counts (nodes_of own) (nodes_of next) new → over ≡ overused_by p.device new →
          {less more : ℕ} → less ≡ one_if (is_none before) → more ≡ one_if (is_none after) →
          AreRecorded p (lists_of_trees (set trees i after)) new over (unrouted - less + more)
      replaced {new} {over} changes counts_over {less} {more} is_less is_more =
          let kept_now : AreRecorded p (set lists i (list_of_tree after)) new over (unrouted - less + more) = record {
            problem = kept.problem;
            one_each = length-set lists i (list_of_tree after) ∙ kept.one_each;
            routes = routes_set p lists i (list_of_tree after) entry kept.routes next_routes;
            size = changes.size ∙ kept.size;
            uses = λ a. omega (arith, change a, changes.each a, kept.uses a);
            over = counts_over;
            without = omega (arith, counted, none_less less is_less, kept.without, is_less, is_more);
          } in
          subst (λ ls. AreRecorded p ls new over (unrouted - less + more)) (sym (map-set list_of_tree trees i after)) kept_now

-- ---- where nothing is recorded
no_lists : (n : ℕ) → lists_of_trees (replicate n None) ≡ replicate n None
no_lists zero = refl
no_lists (suc n) = ap (λ ls. None ∷ ls) (no_lists n)

pub none_listed : (n i : ℕ) → list_in (replicate n None) i ≡ None
none_listed zero i = refl
none_listed (suc n) zero = refl
none_listed (suc n) (suc i) = none_listed n i

all_without : (n : ℕ) → unrouted_in (replicate n None) ≡ n
unfolding unrouted_in
all_without zero = refl
all_without (suc n) =
    let rest = all_without n in
    let next = sum_by-cons (λ (l : Option (List Pair)). one_if (is_none l)) None (replicate n None) in
    omega (arith, rest, next)

pub none_recorded : (p : RoutingProblem) (trees : List (Option (List Row))) (counts : List ℕ) (overused unrouted : ℕ) → IsProblem p →
    trees ≡ replicate (length p.nets) None → counts ≡ replicate (node_count_of p.device) 0 → overused ≡ 0 → unrouted ≡ length p.nets →
    AreRecorded p (lists_of_trees trees) counts overused unrouted
none_recorded p trees counts overused unrouted problem no_trees no_counts none all =
    let lists : lists_of_trees trees ≡ replicate (length p.nets) None = ap lists_of_trees no_trees ∙ no_lists (length p.nets) in
    subst (λ ls. AreRecorded p ls counts overused unrouted) (sym lists) (record {
      problem = problem;
      one_each = length-replicate (length p.nets) None;
      routes = λ i pairs e. absurd (none-some pairs (sym (none_listed (length p.nets) i) ∙ e));
      size = ap length no_counts ∙ length-replicate (node_count_of p.device) 0;
      uses = λ a. ap (λ cs. get_or cs a 0) no_counts ∙ (zeros (node_count_of p.device) a ∙ sym (unused p.nets (length p.nets) a));
      over = none ∙ sym (ap (overused_by p.device) no_counts ∙ none_overused p.device (node_count_of p.device));
      without = all ∙ sym (all_without (length p.nets));
    })

pub no_lists_yet : (trees : List (Option (List Row))) (n : ℕ) → trees ≡ replicate n None → lists_of_trees trees ≡ replicate n None
no_lists_yet trees n e = ap lists_of_trees e ∙ no_lists n

pub one_at_most : (b : Bool) → one_if b ≤ 1
one_at_most true = omega arith
one_at_most false = omega arith
