use Rattle.std.proofs.Common.{◌<◌, All, sym, subst}
use Rattle.congestion_book.proofs.Recording.{own_there, own_used, own_uses}
use Rattle.congestion_book.proofs.Seeing.{sees_others}
use Rattle.congestion_book.proofs.routes.Routes.show.Goals as goal

pub show-requires-clause-there : goal.show-requires-clause-there
show-requires-clause-there c =
    let has = c.requires.recorded.1 in
    subst (λ n. All (λ r. r.node < n) c.rows_of.result.now) (sym has.1.size)
    (own_there c.args.self.now.trees.items has.0 has.1 c.index-tree.ensures c.rows_of.ensures.rows c.rows_of.ensures.tree)

pub show-requires-clause-used : goal.show-requires-clause-used
show-requires-clause-used c =
    let has = c.requires.recorded.1 in
    own_used c.args.self.now.trees.items has.0 has.1 c.index-tree.ensures c.rows_of.ensures.rows c.rows_of.ensures.tree

pub returns : goal.returns
returns c p has =
    sees_others (own_uses c.args.self.now.trees.items has.0 has.1 c.index-tree.ensures c.rows_of.ensures.rows c.rows_of.ensures.tree)
    c.requires.histories c.show.ensures
