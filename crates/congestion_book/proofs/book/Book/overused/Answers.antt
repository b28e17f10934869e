use Rattle.std.proofs.Common.{◌≡◌, subst, ◌∙◌}
use Rattle.congestion_book.specs.Recorded.{overused_in}
use Rattle.congestion_book.specs.kept.Fields.{content_of}
use Rattle.congestion_book.proofs.Rows.{overused_is}
use Rattle.congestion_book.proofs.book.Book.overused.Goals as goal

pub returns : goal.returns
returns c =
    let b = c.self.inside in
    let k = content_of b in
    subst (λ k. b.routes.usage.overused ≡ overused_in k.problem k.lists) c.self.view_is
    (c.self.invariant.over ∙ overused_is k.problem k.lists b.routes.usage.counts c.self.invariant.sound.occupied c.self.invariant.sound.uses)
