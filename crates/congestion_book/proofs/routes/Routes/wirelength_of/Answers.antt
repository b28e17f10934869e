use Rattle.std.proofs.Common.{◌≤◌, ◌^◌, ◌∙◌, sym, subst}
use Rattle.route_tree.specs.TreeLists.{lists_of_trees}
use Rattle.congestion_book.proofs.Lengths.{rows_long, rows_short}
use Rattle.congestion_book.proofs.Recording.{own_uses, own_there}
use Rattle.congestion_book.proofs.routes.Routes.wirelength_of.Goals as goal

pub places_of-requires : goal.places_of-requires
places_of-requires c =
    rows_short c.args.problem.now (lists_of_trees c.args.self.now.trees.items) c.args.net c.rows_of.result.now
    (own_uses c.args.self.now.trees.items c.requires.there c.requires.recorded c.index-tree.ensures c.rows_of.ensures.rows c.rows_of.ensures.tree)
    (own_there c.args.self.now.trees.items c.requires.there c.requires.recorded c.index-tree.ensures c.rows_of.ensures.rows c.rows_of.ensures.tree)
    c.device.result.now c.device.ensures.device c.device.ensures.limits

pub returns-clause-exact : goal.returns-clause-exact
returns-clause-exact c =
    c.places_of.ensures
    ∙ rows_long c.args.problem.now (lists_of_trees c.args.self.now.trees.items) c.args.net c.rows_of.result.now
    (own_uses c.args.self.now.trees.items c.requires.there c.requires.recorded c.index-tree.ensures c.rows_of.ensures.rows c.rows_of.ensures.tree)
    (own_there c.args.self.now.trees.items c.requires.there c.requires.recorded c.index-tree.ensures c.rows_of.ensures.rows c.rows_of.ensures.tree)
    c.device.result.now c.device.ensures.device

pub returns-clause-short : goal.returns-clause-short
returns-clause-short c =
    subst (λ k. k ≤ 2 ^ 40) (sym c.places_of.ensures)
    (rows_short c.args.problem.now (lists_of_trees c.args.self.now.trees.items) c.args.net c.rows_of.result.now
    (own_uses c.args.self.now.trees.items c.requires.there c.requires.recorded c.index-tree.ensures c.rows_of.ensures.rows c.rows_of.ensures.tree)
    (own_there c.args.self.now.trees.items c.requires.there c.requires.recorded c.index-tree.ensures c.rows_of.ensures.rows c.rows_of.ensures.tree)
    c.device.result.now c.device.ensures.device c.device.ensures.limits)
