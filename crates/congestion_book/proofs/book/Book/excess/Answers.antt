use Rattle.std.proofs.Common.{◌≡◌, subst, ◌∙◌, ap}
use Rattle.congestion_book.specs.Recorded.{excess_in}
use Rattle.congestion_book.specs.kept.Usage.{excess_by}
use Rattle.congestion_book.specs.kept.Fields.{content_of}
use Rattle.congestion_book.proofs.Rows.{excess_is}
use Rattle.congestion_book.proofs.book.Book.excess.Goals as goal

pub returns : goal.returns
returns c =
    let b = c.self.inside in
    let k = content_of b in
    subst (λ k. c.total_excess.result ≡ excess_in k.problem k.lists) c.self.view_is
    (c.total_excess.ensures ∙ ap (λ f. excess_by f b.routes.usage.counts) c.device.ensures.device
    ∙ excess_is k.problem k.lists b.routes.usage.counts c.self.invariant.sound.occupied c.self.invariant.sound.uses)
