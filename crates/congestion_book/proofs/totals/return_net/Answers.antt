use Rattle.congestion_book.proofs.WholeViews.{back_there, back_room, is_back}
use Rattle.congestion_book.proofs.totals.return_net.Goals as goal

pub return_rows-requires-clause-there : goal.return_rows-requires-clause-there
return_rows-requires-clause-there c =
    let s = c.requires.lacks.1 in
    back_there c.requires.lacks.0 c.args.net c.args.own.now s.before s.shown c.rows_of.ensures.rows c.rows_of.ensures.tree c.args.view.now s.is

pub return_rows-requires-clause-room : goal.return_rows-requires-clause-room
return_rows-requires-clause-room c =
    let s = c.requires.lacks.1 in
    back_room c.requires.lacks.0 c.args.net c.args.own.now s.before s.shown c.rows_of.ensures.rows c.rows_of.ensures.tree c.args.view.now s.is

pub returns : goal.returns
returns c = λ k s. is_back k c.args.net c.args.own.now s.before s.shown c.rows_of.ensures.rows c.rows_of.ensures.tree c.args.view.now s.is c.return_rows.ensures
