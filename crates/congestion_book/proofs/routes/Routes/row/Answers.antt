use Rattle.std.proofs.Common.{◌≤◌, ℕ, sym, ap, subst, ◌∙◌}
use Rattle.route_tree.specs.TreeLists.{lists_of_trees}
use Rattle.congestion_book.specs.kept.Usage.{row_by}
use Rattle.congestion_book.specs.Histories.{amount_in}
use Rattle.congestion_book.proofs.Rows.{row_bounded}
use Rattle.congestion_book.proofs.routes.Routes.row.Goals as goal

pub returns-clause-bounded : goal.returns-clause-bounded
returns-clause-bounded c =
    let counts = c.args.self.now.usage.counts in
    subst (λ row. (a : ℕ) → amount_in row a ≤ 65535) (sym (c.in_ok-amounts.ensures ∙ ap (λ f. row_by f counts) c.device.ensures.device))
    (row_bounded c.args.problem.now (lists_of_trees c.args.self.now.trees.items) counts c.requires.recorded.problem c.requires.recorded.uses)
