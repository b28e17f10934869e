use Rattle.congestion_book.proofs.WholeViews.{own_there, own_used, is_left_out}
use Rattle.congestion_book.proofs.totals.leave_net.Goals as goal

pub leave_rows-requires-clause-there : goal.leave_rows-requires-clause-there
leave_rows-requires-clause-there c =
    let s = c.requires.shown.1 in
    own_there c.requires.shown.0 c.args.net c.args.own.now c.args.view.now s c.rows_of.ensures.rows c.rows_of.ensures.tree

pub leave_rows-requires-clause-used : goal.leave_rows-requires-clause-used
leave_rows-requires-clause-used c =
    let s = c.requires.shown.1 in
    own_used c.requires.shown.0 c.args.net c.args.own.now c.args.view.now s c.rows_of.ensures.rows c.rows_of.ensures.tree

pub returns : goal.returns
returns c = λ k s. is_left_out k c.args.net c.args.own.now c.args.view.now s c.rows_of.ensures.rows c.rows_of.ensures.tree c.leave_rows.ensures
