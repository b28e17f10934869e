use Rattle.std.proofs.Common.{ap, ◌∙◌, arith}
use Rattle.routing_problem.specs.Nodes.{node_count_of}
use Rattle.std.specs.List.{zip}
use Rattle.congestion_book.specs.kept.Fields.{content_of}
use Rattle.congestion_book.proofs.WholeViews.{shows_all}
use Rattle.congestion_book.proofs.book.Book.look_at_all.Goals as goal

pub returns : goal.returns
returns c =
    let b = c.self.inside in
    let is = c.show_all.ensures ∙ ap (zip b.routes.usage.counts) c.histories.ensures.exact in
    rw (← c.self.view_is) (
      omega (arith, c.len.ensures.count, c.if-len-nodes.false, c.node_count-nodes.ensures.count, ap node_count_of c.device.ensures.device),
      shows_all (content_of b) c.self.invariant.problem c.self.invariant.sound c.show_all.new.view is,
    )
