use Rattle.congestion_book.proofs.WholeViews.{own_there, own_used, next_there, next_room, is_replaced, is_kept}
use Rattle.congestion_book.proofs.totals.replace_net.Goals as goal

pub leave_rows-requires-clause-there : goal.leave_rows-requires-clause-there
leave_rows-requires-clause-there c =
    let s = c.requires.shown.1 in
    own_there c.requires.shown.0 c.args.net c.args.before.now c.args.view.now s.shown c.rows_of.ensures.rows c.rows_of.ensures.tree

pub leave_rows-requires-clause-used : goal.leave_rows-requires-clause-used
leave_rows-requires-clause-used c =
    let s = c.requires.shown.1 in
    own_used c.requires.shown.0 c.args.net c.args.before.now c.args.view.now s.shown c.rows_of.ensures.rows c.rows_of.ensures.tree

pub return_rows-requires-clause-there : goal.return_rows-requires-clause-there
return_rows-requires-clause-there c =
    let s = c.requires.shown.1 in
    next_there c.requires.shown.0 c.args.net c.args.before.now c.args.view.now s.shown c.rows_of.ensures.rows c.rows_of.ensures.tree c.args.after.now s.routes c.rows_of-2.ensures.rows c.rows_of-2.ensures.tree c.leave_rows.new.view c.leave_rows.ensures

pub return_rows-requires-clause-room : goal.return_rows-requires-clause-room
return_rows-requires-clause-room c =
    let s = c.requires.shown.1 in
    next_room c.requires.shown.0 c.args.net c.args.before.now c.args.view.now s.shown c.rows_of.ensures.rows c.rows_of.ensures.tree c.args.after.now s.routes c.rows_of-2.ensures.rows c.rows_of-2.ensures.tree c.leave_rows.new.view c.leave_rows.ensures

pub returns : goal.returns
returns c = λ k s.
    is_replaced k c.args.net c.args.before.now c.args.view.now s.shown c.rows_of.ensures.rows c.rows_of.ensures.tree c.args.after.now s.routes c.rows_of-2.ensures.rows c.rows_of-2.ensures.tree c.leave_rows.new.view c.leave_rows.ensures c.return_rows.ensures

pub returns-then-are_same : goal.returns-then-are_same
returns-then-are_same c = λ k s. is_kept k c.args.net c.args.before.now c.args.view.now s.shown c.args.after.now (c.are_same.ensures c.if-are_same.true)
