-- What a replica shows, before and after a turn is replayed.
use Rattle.std.proofs.Common.{◌≡◌, ℕ, ◌<◌, true, false, List, [], length, get_or, set, Bool, Option, sym, ap, subst, ◌∙◌, arith}
use Rattle.std.specs.Prelude.{replicate}
use Rattle.route_tree.specs.declared.tree.Row.{Row}
use Rattle.route_tree.specs.TreeLists.{list_of_tree}
use Rattle.route_tree.specs.Usage.{Lists, list_in}
use Rattle.node_cost.specs.Views.{NetView}
use Rattle.congestion_book.specs.Contents.{net_count, view_of}
use Rattle.congestion_book.specs.Totals.{ShowsAll, ShowsNet, LacksNet, MayReplace, with_list}
use Rattle.net_workers.specs.declared.made_turn.MadeTurn.{MadeTurn}
use Rattle.net_workers.specs.Searches.{IsFoundIn}
use Rattle.net_workers.specs.kept.Routes.{RoutesNet}
use Rattle.wavefront.specs.Growth.{space_of}
use Rattle.net_workers.specs.kept.TurnLogs.{Plan, lists_after, book_after, turns_for, Follows, IsFoundAfter}
use Rattle.net_workers.specs.kept.Pages.{IsNext, IsReplica, IsSearched}
use Rattle.net_workers.proofs.TurnLogs.{lists_len, kept_list, lists_more, none_turned, open_none, turned_more}

pub first_replica : (p : Plan) (view : NetView) → ShowsAll p.opening view → IsReplica p view (replicate (net_count p.opening) false) []
first_replica p view shows = record { shows = shows; nets = none_turned p }

module _ (p : Plan) (view : NetView) (turned : List Bool) (log : List MadeTurn) (r : IsReplica p view turned log) where
  pub listed_there : {net : ℕ} → net < net_count p.opening → net < length p.opening.lists
  listed_there {net} low = omega (arith, low, r.shows.one_each, lists_len p.opening.lists log)

  -- a net that had no turn has its opening tree
  pub shows_net : (net : ℕ) (own : Option (List Row)) → net < net_count p.opening → turns_for net log ≡ 0 → list_in p.opening.lists net ≡ list_of_tree own →
      ShowsNet (book_after p log) net own view
  shows_net net own there none is = record { all = r.shows; there = there; own = kept_list p.opening.lists log net none ∙ is }

  pub shows_open : (net : ℕ) (own : Option (List Row)) → net < length turned → get_or turned net false ≡ false → list_in p.opening.lists net ≡ list_of_tree own →
      ShowsNet (book_after p log) net own view
  shows_open net own low free is = shows_net net own (omega (arith, low, r.nets.all)) (open_none p turned log net r.nets free) is

  pub lacks_open : (net : ℕ) (own : Option (List Row)) (less : NetView) → ShowsNet (book_after p log) net own view → less ≡ view_of (book_after p log) net →
      LacksNet (book_after p log) net own less
  lacks_open net own less shows is = record { before = view; shown = shows; is = is }

  pub still_replica : (new : NetView) → ShowsAll (book_after p log) new → IsReplica p new turned log
  still_replica new shows = record { shows = shows; nets = r.nets }

  -- what a search found in the view of the net
  pub searched : (net : ℕ) (tree : Option (List Row)) (less : NetView) → net < net_count p.opening → less ≡ view_of (book_after p log) net →
      IsFoundIn (space_of p.opening.problem net less p.present p.bb) tree → RoutesNet p.opening.problem net tree → IsSearched p net tree log
  unfolding IsFoundAfter
  searched net tree less there is found routes = record {
    there = there;
    found = subst (λ v. IsFoundIn (space_of p.opening.problem net v p.present p.bb) tree) is found;
    routes = routes;
  }

  pub may_replay : (t : MadeTurn) (own : Option (List Row)) → Follows p log t → list_in p.opening.lists t.entry.net ≡ list_of_tree own →
      MayReplace (book_after p log) t.entry.net own t.entry.tree view
  may_replay t own follows is = record { shown = shows_net t.entry.net own follows.net follows.once is; routes = follows.routes }

  pub replayed : (t : MadeTurn) (longer : List MadeTurn) (new : NetView) → IsNext p log t longer →
      ShowsAll (with_list (book_after p log) t.entry.net (list_of_tree t.entry.tree)) new → IsReplica p new (set turned t.entry.net true) longer
  replayed t longer new next shows =
      let lists : lists_after p.opening.lists longer ≡ set (lists_after p.opening.lists log) t.entry.net (list_of_tree t.entry.tree) =
      ap (lists_after p.opening.lists) next.one_more ∙ lists_more p.opening.lists log t in
      record {
        shows = subst (λ (l : Lists). ShowsAll (record p.opening { lists = l }) new) (sym lists) shows;
        nets = rw next.one_more (turned_more p turned log t r.nets next.follows);
      }
