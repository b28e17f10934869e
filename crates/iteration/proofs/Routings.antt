-- The recorded trees of a book, net by net.
use Rattle.std.proofs.Common.{◌≡◌, ℕ, ◌+◌, ◌<◌, ◌≤◌, ◌++◌, ◌∷◌, [], List, length, take, Option, None, sym, ap, ◌∙◌}
use Rattle.std.proofs.lemmas.List.{take_more, take_all, map-append}
use Rattle.route_tree.specs.declared.tree.Row.{Row}
use Rattle.route_tree.specs.TreeLists.{list_of_tree, lists_of_trees}
use Rattle.route_tree.specs.Usage.{Lists, list_in}

pub trees_more : (lists : Lists) (trees : List (Option (List Row))) (i : ℕ) (t : Option (List Row)) → i < length lists →
    list_of_tree t ≡ list_in lists i → lists_of_trees trees ≡ take i lists → lists_of_trees (trees ++ t ∷ []) ≡ take (i + 1) lists
trees_more lists trees i t low is was =
    map-append list_of_tree trees (t ∷ [])
    ∙ ap (λ ls. ls ++ list_of_tree t ∷ []) was
    ∙ ap (λ l. take i lists ++ l ∷ []) is
    ∙ sym (take_more lists i None low)

pub trees_all : (lists : Lists) (trees : List (Option (List Row))) (n : ℕ) → length lists ≤ n → lists_of_trees trees ≡ take n lists → lists_of_trees trees ≡ lists
trees_all lists trees n all was = was ∙ take_all n lists all
