-- The trees that a book has recorded fit its problem.
use Rattle.std.proofs.Common.{◌≡◌, ℕ, ◌==◌, true, List, length, Option, Some, None, refl, ap, ◌∙◌}
use Rattle.std.specs.List.{list_all}
use Rattle.std.proofs.lemmas.Bool.{and_from, eq-eqb}
use Rattle.std.proofs.lemmas.List.{get_or_default}
use Rattle.std.proofs.lemmas.List.Sums.{list_all-from_AllPass}
use Rattle.rr_graph.specs.Problems.{net_in}
use Rattle.route_tree.specs.Paths.{Pair}
use Rattle.route_tree.specs.Fits.{are_nodes, fits_problem}
use Rattle.route_tree.specs.Usage.{list_in}
use Rattle.route_tree.proofs.LegalLists.{names_nodes}
use Rattle.congestion_book.specs.Contents.{Content, IsSound}

list_fits : (c : Content) → IsSound c → (i : ℕ) (l : Option (List Pair)) → list_in c.lists i ≡ l → are_nodes c.problem.device l ≡ true
list_fits c sound i None is = refl
list_fits c sound i (Some pairs) is =
    names_nodes c.problem.device (net_in c.problem.nets i) pairs (sound.routes i pairs is).legal

pub book_fits : (c : Content) → IsSound c → fits_problem c.problem c.lists ≡ true
unfolding fits_problem
book_fits c sound =
    and_from (length c.lists == length c.problem.nets) (list_all (are_nodes c.problem.device) c.lists) (eq-eqb (length c.lists) (length c.problem.nets) sound.one_each)
    (list_all-from_AllPass (are_nodes c.problem.device) c.lists
    (λ k d l. ap (are_nodes c.problem.device) (get_or_default c.lists k d None l) ∙ list_fits c sound k (list_in c.lists k) refl))
