-- Views in which no net is left out.
use Rattle.std.proofs.Common.{◌≡◌, inl, inr, ℕ, ◌+◌, ◌<◌, ◌≤◌, List, length, set, All, Option, None, sym, ap, subst, ◌∙◌, arith, length-set}
use Rattle.std.specs.List.{zip}
use Rattle.std.proofs.lemmas.Bool.{cases_lt}
use Rattle.std.proofs.lemmas.List.{get_or_past, set-get_or}
use Rattle.node_cost.specs.Views.{NodeView, NetView, others_in, history_in}
use Rattle.node_cost.proofs.Views.{length_seen, others_at, history_at}
use Rattle.routing_problem.specs.Nodes.{node_count_of}
use Rattle.routing_problem.specs.Problems.{net_in, IsProblem}
use Rattle.route_tree.specs.declared.tree.Row.{Row}
use Rattle.route_tree.specs.kept.Marked.{nodes_of}
use Rattle.route_tree.specs.TreeLists.{list_of_tree}
use Rattle.route_tree.specs.Usage.{use_by, use_of, Lists, list_in}
use Rattle.route_tree.proofs.Uses.{use_replaced, own_within, few_uses}
use Rattle.congestion_book.specs.Recorded.{RoutesOrNone}
use Rattle.congestion_book.specs.Contents.{Content, IsSound, node_total, view_of}
use Rattle.congestion_book.specs.Totals.{ShowsAll, ShowsNet, with_list}
use Rattle.congestion_book.specs.kept.Counts.{IsTreeOrNone, rows_of}
use Rattle.congestion_book.specs.kept.Usage.{times_in}
use Rattle.congestion_book.specs.kept.Views.{LeavesOut}
use Rattle.congestion_book.proofs.Covering.{uses_rows, rows_within}
use Rattle.congestion_book.proofs.Recording.{route_there, routes_set}
use Rattle.congestion_book.proofs.Seeing.{view_by, view_size, view_others, view_history}

-- what a sound book shows of all nets
pub shows_all : (c : Content) → IsProblem c.problem → IsSound c → (view : NetView) → view ≡ zip c.occupancies c.histories → ShowsAll c view
shows_all c problem sound view is =
    let same : length c.histories ≡ length c.occupancies = sound.remembered ∙ sym sound.occupied in
    record {
      problem = problem;
      one_each = sound.one_each;
      routes = sound.routes;
      size = ap length is ∙ (length_seen c.occupancies c.histories same ∙ sound.occupied);
      uses = λ a. ap (λ v. others_in v a) is ∙ (others_at c.occupancies c.histories a same ∙ sound.uses a);
      remembered = λ a l. ap (λ v. history_in v a) is ∙ (history_at c.occupancies c.histories a same ∙ sound.accumulated a l);
    }

-- ---- a net with its tree
module _ (c : Content) (net : ℕ) (tree : Option (List Row)) (view : NetView) (s : ShowsNet c net tree view) where
  entry : net < length c.lists
  entry = omega (arith, s.there, s.all.one_each)

  routes : RoutesOrNone c.problem net (list_of_tree tree)
  routes = route_there c.problem net (list_of_tree tree) (λ pairs e. s.all.routes net pairs (s.own ∙ e))

  -- the same tree in its place
  pub is_kept : (after : Option (List Row)) → tree ≡ after → ShowsAll (with_list c net (list_of_tree after)) view
  is_kept after same =
      let kept : set c.lists net (list_of_tree after) ≡ c.lists =
      ap (set c.lists net) (ap list_of_tree (sym same) ∙ sym s.own) ∙ set-get_or c.lists net None in
      subst (λ (ls : Lists). ShowsAll (record c { lists = ls }) view) (sym kept) s.all

  module _ {own : List Row} (rows : own ≡ rows_of tree) (is : IsTreeOrNone tree) where
    own_uses : (a : ℕ) → use_by (net_in c.problem.nets net) (list_in c.lists net) a ≡ times_in (nodes_of own) a
    own_uses a =
        ap (λ l. use_by (net_in c.problem.nets net) l a) s.own ∙ uses_rows c.problem net tree is routes a
        ∙ ap (λ rs. times_in (nodes_of rs) a) (sym rows)

    own_few : (a : ℕ) → times_in (nodes_of own) a ≤ use_of c.problem.nets c.lists a
    own_few a = omega (arith, own_within c.problem.nets c.lists net a s.there entry, own_uses a)

    own_below : All (λ r. r.node < node_total c) own
    own_below = subst (All (λ (r : Row). r.node < node_count_of c.problem.device)) (sym rows) (rows_within c.problem net tree is routes)

    pub own_there : All (λ r. r.node < length view) own
    own_there = subst (λ n. All (λ (r : Row). r.node < n) own) (sym s.all.size) own_below

    pub own_used : (a : ℕ) → times_in (nodes_of own) a ≤ others_in view a
    own_used a = omega (arith, own_few a, s.all.uses a)

    -- without it the view is that of the net
    pub is_left_out : {new : NetView} → LeavesOut (nodes_of own) view new → new ≡ view_of c net
    is_left_out {new} leaves =
        view_by c net s.there entry new (leaves.size ∙ s.all.size)
        (λ a. omega (arith, leaves.others a, own_uses a, s.all.uses a))
        (λ a l. leaves.histories a ∙ s.all.remembered a l)

    -- ---- back in the view of the net
    module _ (less : NetView) (lacks : less ≡ view_of c net) where
      less_size : length less ≡ node_total c
      less_size = ap length lacks ∙ view_size c net s.there entry

      pub back_there : All (λ r. r.node < length less) own
      back_there = subst (λ n. All (λ (r : Row). r.node < n) own) (sym less_size) own_below

      less_others : (a : ℕ) → a < node_total c → others_in less a + times_in (nodes_of own) a ≡ use_of c.problem.nets c.lists a
      less_others a l =
          let at : others_in less a ≡ others_in (view_of c net) a = ap (λ v. others_in v a) lacks in
          omega (arith, at, view_others c net s.there entry a l, own_uses a)

      past : (v : NetView) → length v ≡ node_total c → (a : ℕ) → node_total c ≤ a → others_in v a ≡ 0
      past v size a l = ap (λ (n : NodeView). n.0) (get_or_past v a (0, 0) (omega (arith, l, size)))

      pub back_room : (a : ℕ) → others_in less a + times_in (nodes_of own) a ≤ 65535
      back_room a =
          let most = few_uses c.problem.nets c.lists a in
          let few = s.all.problem.few in
          elim (cases_lt a (node_total c)) [
            | inl l ↦ omega (arith, less_others a l, most, few)
            | inr l ↦ omega (arith, past less less_size a (omega (arith, l)), own_few a, most, few)
          ]

      pub is_back : {new : NetView} → LeavesOut (nodes_of own) new less → ShowsAll c new
      is_back {new} leaves =
          let size : length new ≡ node_total c = sym leaves.size ∙ less_size in
          record {
            problem = s.all.problem;
            one_each = s.all.one_each;
            routes = s.all.routes;
            size = size;
            uses = λ a. elim (cases_lt a (node_total c)) [
              | inl l ↦ omega (arith, leaves.others a, less_others a l)
              | inr l ↦ omega (arith, past new size a (omega (arith, l)), past view s.all.size a (omega (arith, l)), s.all.uses a)
            ];
            remembered = λ a l. sym (leaves.histories a) ∙ (ap (λ v. history_in v a) lacks ∙ view_history c net s.there entry a l);
          }

    -- ---- another tree in its place
    module _ (after : Option (List Row)) (may : RoutesOrNone c.problem net (list_of_tree after)) {next : List Row} (next_rows : next ≡ rows_of after) (next_is : IsTreeOrNone after)
        (less : NetView) (leaves : LeavesOut (nodes_of own) view less) where
      next_uses : (a : ℕ) → use_by (net_in c.problem.nets net) (list_of_tree after) a ≡ times_in (nodes_of next) a
      next_uses a = uses_rows c.problem net after next_is may a ∙ ap (λ rs. times_in (nodes_of rs) a) (sym next_rows)

      change : (a : ℕ) → use_of c.problem.nets (set c.lists net (list_of_tree after)) a ≡ others_in less a + times_in (nodes_of next) a
      change a =
          omega (arith, use_replaced c.problem.nets c.lists net (list_of_tree after) a s.there entry, own_uses a, next_uses a, leaves.others a, s.all.uses a)

      pub next_there : All (λ r. r.node < length less) next
      next_there =
          subst (λ n. All (λ (r : Row). r.node < n) next) (sym (leaves.size ∙ s.all.size))
          (subst (All (λ (r : Row). r.node < node_count_of c.problem.device)) (sym next_rows) (rows_within c.problem net after next_is may))

      pub next_room : (a : ℕ) → others_in less a + times_in (nodes_of next) a ≤ 65535
      next_room a = omega (arith, change a, few_uses c.problem.nets (set c.lists net (list_of_tree after)) a, s.all.problem.few)

      pub is_replaced : {new : NetView} → LeavesOut (nodes_of next) new less → ShowsAll (with_list c net (list_of_tree after)) new
      is_replaced {new} back = record {
        problem = s.all.problem;
        one_each = length-set c.lists net (list_of_tree after) ∙ s.all.one_each;
        routes = routes_set c.problem c.lists net (list_of_tree after) entry s.all.routes may;
        size = sym back.size ∙ (leaves.size ∙ s.all.size);
        uses = λ a. omega (arith, back.others a, change a);
        remembered = λ a l. sym (back.histories a) ∙ (leaves.histories a ∙ s.all.remembered a l);
      }
