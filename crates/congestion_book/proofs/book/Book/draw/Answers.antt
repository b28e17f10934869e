use Rattle.std.proofs.Common.{ℕ, List, Some, Ok, ap, subst, arith}
use Rattle.routing_problem.specs.Nodes.{node_count_of}
use Rattle.route_tree.specs.TreeLists.{lists_of_trees}
use Rattle.route_tree.specs.Usage.{list_in}
use Rattle.congestion_book.specs.kept.Views.{SeesOthers}
use Rattle.congestion_book.specs.Steps.{Draws}
use Rattle.congestion_book.proofs.Soundness.{recorded}
use Rattle.congestion_book.proofs.Stepping.{draws_net, with_turns}
use Rattle.congestion_book.proofs.book.Book.draw.Goals as goal

pub show-requires-clause-recorded : goal.show-requires-clause-recorded
show-requires-clause-recorded c =
    let b = c.self.inside in
    (b.problem, (omega (arith, c.in-Some.ensures.1, c.self.invariant.sound.held), recorded b c.self.invariant))

pub returns-clause-step : goal.returns-clause-step
returns-clause-step c =
    let b = c.self.inside in
    let Sees = λ (hs : List ℕ). SeesOthers b.problem c.in-Some.net (list_in (lists_of_trees b.routes.trees.items) c.in-Some.net) b.routes.usage.counts hs c.show.new.view in
    subst (λ old. Draws old c.args.view.now c.args.worker (Ok (Some c.in-Some.net)) (with_turns b c.draw.new.self) c.show.new.view) c.self.view_is
    (draws_net b c.self.invariant c.args.view.now c.show.new.view c.args.worker c.in-Some.net c.draw.new.self
    (omega (arith, c.len.ensures, c.if-len-node_count.false, c.node_count.ensures.count, ap node_count_of c.device.ensures.device)) c.in-Some.ensures
    (subst Sees c.histories.ensures.exact
    (c.show.ensures b.problem (omega (arith, c.in-Some.ensures.1, c.self.invariant.sound.held), recorded b c.self.invariant))))
