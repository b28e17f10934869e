use Rattle.std.proofs.Common.{Err, refl, subst}
use Rattle.route_tree.specs.Rows.{pairs_of}
use Rattle.congestion_book.specs.declared.faults.CommitFault.TheVariants.{Illegal}
use Rattle.congestion_book.specs.Steps.{Commits}
use Rattle.congestion_book.specs.kept.Fields.{content_of}
use Rattle.congestion_book.proofs.book.Book.commit.Goals as goal

pub returns-in-Err-clause-step : goal.returns-in-Err-clause-step
returns-in-Err-clause-step c =
    let b = c.self.inside in
    subst (λ old. Commits old c.args.worker c.args.net (pairs_of c.args.tree) (Err (Illegal c.in-Err.fault)) (content_of b)) c.self.view_is
    (c.holds.ensures.0 c.if-not-holds.false, (c.check_tree.ensures.faults c.in-Err.fault).0 c.in-Err.is, refl)
