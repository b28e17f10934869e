-- A turn at the desk, and its history.
use Rattle.std.proofs.Common.{◌≡◌, ℕ, ◌<◌, true, false, List, [], ◌∷◌, ◌++◌, length, set, Option, Some, None, Result, Ok, Err, refl, sym, ap, subst, ◌∙◌, arith}
use Rattle.std.specs.Prelude.{map, is_none}
use Rattle.std.specs.Result.{is_err}
use Rattle.std.proofs.lemmas.List.{map-append}
use mathlib.Core.List.{IsPrefix}
use Rattle.route_tree.specs.declared.tree.Row.{Row}
use Rattle.route_tree.specs.Paths.{Pair}
use Rattle.route_tree.specs.TreeLists.{list_of_tree}
use Rattle.congestion_book.specs.declared.faults.PassFault.{PassFault}
use Rattle.congestion_book.specs.declared.faults.PassFault.TheVariants.{NotHeld}
use Rattle.congestion_book.specs.Turns.{turns_at, turn_of}
use Rattle.congestion_book.specs.Contents.{Content}
use Rattle.congestion_book.specs.Steps.{EndsTurn, after_turn}
use Rattle.net_workers.specs.declared.made_turn.MadeTurn.{MadeTurn}
use Rattle.net_workers.specs.kept.Routes.{RoutesNet}
use Rattle.net_workers.specs.kept.TurnLogs.{Plan, lists_after, turn_in_book, Follows}
use Rattle.net_workers.specs.kept.Pages.{Searched, IsSearched, IsLogged}
use Rattle.net_workers.proofs.Fronts.{prefix_length}
use Rattle.net_workers.proofs.TurnLogs.{lists_more, turns_are, follows_now}

none_alike : (t : Option (List Row)) → is_none (list_of_tree t) ≡ is_none t
none_alike None = refl
none_alike (Some rows) = refl

-- what became of the end of a turn
pub ended : (old new : Content) (worker net : ℕ) (list : Option (List Pair)) (r : Result (Unit {0}) PassFault) → is_err r ≡ false →
    EndsTurn old worker net list r new → new ≡ after_turn old worker net list
ended old new worker net list (Ok done) isnt step = step.1
ended old new worker net list (Err NotHeld) isnt step = cc

pub not_ended : (old new : Content) (worker net : ℕ) (list : Option (List Pair)) (r : Result (Unit {0}) PassFault) → is_err r ≡ true →
    EndsTurn old worker net list r new → new ≡ old
not_ended old new worker net list (Ok done) is step = cc
not_ended old new worker net list (Err NotHeld) is step = step.1

module _ (p q : Plan) (c : Content) (log : List MadeTurn) (d : IsLogged p q c log) where
  -- what was found may be made a turn
  pub desk_follows : (s : Searched) (t : MadeTurn) → IsPrefix s.log log → t.worker < q.workers → t.entry.net ≡ s.net → t.entry.tree ≡ s.tree →
      t.entry.seen ≡ length s.log → turns_at c.turns s.net ≡ 0 → IsSearched p s.net s.tree s.log → Follows p log t
  desk_follows s t pre known net tree seen none found =
      let workers : q.workers ≡ p.workers = ap (λ (r : Plan). r.workers) d.same in
      let once = sym (turns_are s.net log) ∙ (sym (ap (λ ts. turns_at ts s.net) d.turns) ∙ none) in
      follows_now p s.log log t pre (prefix_length s.log log pre) (omega (arith, known, workers)) seen (rw net once)
      (subst (λ n. IsSearched p n t.entry.tree s.log) (sym net) (subst (λ r. IsSearched p s.net r s.log) (sym tree) found))

  pub desk_routes : (s : Searched) (tree : Option (List Row)) → tree ≡ s.tree → IsSearched p s.net s.tree s.log → RoutesNet q.opening.problem s.net tree
  desk_routes s tree is found =
      subst (λ (r : Plan). RoutesNet r.opening.problem s.net tree) (sym d.same) (subst (RoutesNet p.opening.problem s.net) (sym is) found.routes)

  pub logged_more : (t : MadeTurn) (new : Content) (longer : List MadeTurn) → new ≡ after_turn c t.worker t.entry.net (list_of_tree t.entry.tree) →
      longer ≡ log ++ t ∷ [] → IsLogged p q new longer
  logged_more t new longer is more =
      let last : turn_of t.worker t.entry.net (is_none (list_of_tree t.entry.tree)) ≡ turn_in_book t = ap (turn_of t.worker t.entry.net) (none_alike t.entry.tree) in
      record {
        same = d.same;
        lists =
            ap (λ (k : Content). k.lists) is ∙ ap (λ ls. set ls t.entry.net (list_of_tree t.entry.tree)) d.lists
            ∙ (sym (lists_more p.opening.lists log t) ∙ ap (lists_after p.opening.lists) (sym more));
        turns =
            ap (λ (k : Content). k.turns) is ∙ (ap (λ u. c.turns ++ u ∷ []) last ∙ ap (λ us. us ++ turn_in_book t ∷ []) d.turns)
            ∙ (sym (map-append turn_in_book log (t ∷ [])) ∙ ap (map turn_in_book) (sym more));
      }

  pub logged_kept : (new : Content) → new ≡ c → IsLogged p q new log
  logged_kept new is = subst (λ k. IsLogged p q k log) (sym is) d
