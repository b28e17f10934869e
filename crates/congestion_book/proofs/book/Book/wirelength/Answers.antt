use Rattle.std.proofs.Common.{◌≡◌, subst}
use Rattle.congestion_book.specs.Recorded.{wirelength_in}
use Rattle.congestion_book.proofs.Soundness.{recorded}
use Rattle.congestion_book.proofs.book.Book.wirelength.Goals as goal

pub returns : goal.returns
returns c = subst (λ k. c.wirelength.result ≡ wirelength_in k.problem k.lists) c.self.view_is c.wirelength.ensures

pub wirelength-requires : goal.wirelength-requires
wirelength-requires c = record { recorded = recorded c.self.inside c.self.invariant }
