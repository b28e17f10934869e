use Rattle.std.proofs.Common.{◌≡◌, ◌<◌, length, None, sym, subst}
use Rattle.congestion_book.specs.Turns.{IsFirstWaiting}
use Rattle.congestion_book.specs.Contents.{Content, net_count}
use Rattle.congestion_book.specs.kept.Closing.{IsNext}
use Rattle.congestion_book.specs.Steps.{after_close}
use Rattle.congestion_book.specs.kept.Fields.{content_of}
use Rattle.congestion_book.proofs.Soundness.{closed_kept, closed_is, done_there}
use Rattle.congestion_book.proofs.book.Book.open_next.Goals as goal

abbrev Done : Content → Type 0
Done k = IsFirstWaiting k.turns (net_count k) None

abbrev HasRoom : Content → Type 0
HasRoom k = length k.rows < 500

pub open_next-requires-clause-done : goal.open_next-requires-clause-done
open_next-requires-clause-done c = done_there c.self.inside c.self.invariant (subst Done (sym c.self.view_is) c.requires.done)

pub invariant_of-self : goal.invariant_of-self
invariant_of-self c =
    let b = c.self.inside in
    let is = sym c.self.view_is in
    closed_kept b c.args.next c.append.new.self c.open_next.new.self c.self.invariant (subst (λ k. IsNext k c.args.next) is c.requires.next)
    (done_there b c.self.invariant (subst Done is c.requires.done)) (subst HasRoom is c.requires.few) c.append.ensures c.open_next.ensures

pub returns-clause-closed : goal.returns-clause-closed
returns-clause-closed c =
    let b = c.self.inside in
    let new = content_of (record { problem = b.problem; routes = b.routes; history = c.append.new.self; turns = c.open_next.new.self; marks = b.marks }) in
    subst (λ old. new ≡ after_close old) c.self.view_is
    (closed_is b c.args.next c.append.new.self c.open_next.new.self c.self.invariant (subst (λ k. IsNext k c.args.next) (sym c.self.view_is) c.requires.next)
    c.append.ensures c.open_next.ensures)

pub returns-clause-sound : goal.returns-clause-sound
returns-clause-sound c = (invariant_of-self c).sound
