use Rattle.std.proofs.Common.{◌≡◌, ◌∙◌, subst}
use Rattle.std.specs.List.{list_any}
use Rattle.congestion_book.specs.kept.Views.{filled_by}
use Rattle.congestion_book.proofs.Recording.{own_used_once, own_stands}
use Rattle.congestion_book.proofs.Filled.{filled_is}
use Rattle.congestion_book.proofs.routes.Routes.has_filled.Goals as goal

pub any_filled-requires-clause-used : goal.any_filled-requires-clause-used
any_filled-requires-clause-used c = own_used_once c.args.self.now.trees.items c.requires.there c.requires.recorded c.index-tree.ensures c.rows_of.ensures.rows c.rows_of.ensures.tree

pub returns : goal.returns
returns c =
    subst (λ f. c.any_filled.result ≡ list_any (λ r. filled_by f c.rows_of.result.now c.args.self.now.usage.counts c.args.view.now r.node) c.args.rows.now)
    c.device.ensures.device c.any_filled.ensures
    ∙ filled_is c.rows_of.result.now c.args.view.now c.requires.there c.requires.recorded
    (own_stands c.args.self.now.trees.items c.requires.there c.requires.recorded c.index-tree.ensures c.rows_of.ensures.rows c.rows_of.ensures.tree) c.args.rows.now
