use Rattle.std.proofs.Common.{◌≡◌, Option, length, Some, None, nat_le, if◌then◌else◌, sym, subst}
use Rattle.congestion_book.specs.declared.faults.CloseFault.{CloseFault}
use Rattle.congestion_book.specs.declared.faults.CloseFault.TheVariants.{Unfinished, Full}
use Rattle.congestion_book.specs.Contents.{Content}
use Rattle.congestion_book.specs.kept.Closing.{TellsClosing}
use Rattle.congestion_book.specs.kept.Fields.{content_of}
use Rattle.congestion_book.proofs.Stepping.{tells_unfinished, tells_full}
use Rattle.congestion_book.proofs.book.Book.closing_fault.Goals as goal

pub returns-in-Some-clause-told : goal.returns-in-Some-clause-told
returns-in-Some-clause-told c =
    subst (λ k. TellsClosing k (Some (Unfinished c.in-Some.net))) c.self.view_is (tells_unfinished c.self.inside c.self.invariant c.in-Some.net c.in-Some.ensures)

-- whether there is no room for a row
abbrev full_by : Content → Option CloseFault
full_by k = if nat_le 500 (length k.rows) then Some Full else None

pub returns-in-None-clause-told : goal.returns-in-None-clause-told
returns-in-None-clause-told c =
    let b = c.self.inside in
    let is : c.full.result ≡ full_by (content_of b) = subst (λ k. c.full.result ≡ full_by k) (sym c.self.view_is) c.full.ensures in
    subst (λ k. TellsClosing k c.full.result) c.self.view_is
    (subst (TellsClosing (content_of b)) (sym is) (tells_full b c.self.invariant c.in-None.ensures))
