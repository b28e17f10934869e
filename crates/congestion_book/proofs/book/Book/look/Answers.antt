use Rattle.std.proofs.Common.{ℕ, List, ◌<◌, length, Ok, sym, ap, subst, arith}
use Rattle.routing_problem.specs.Nodes.{node_count_of}
use Rattle.route_tree.specs.TreeLists.{lists_of_trees}
use Rattle.route_tree.specs.Usage.{list_in}
use Rattle.congestion_book.specs.Contents.{Content}
use Rattle.congestion_book.specs.kept.Views.{SeesOthers}
use Rattle.congestion_book.specs.Looks.{Looks}
use Rattle.congestion_book.proofs.Soundness.{recorded}
use Rattle.congestion_book.proofs.Stepping.{looks_net}
use Rattle.congestion_book.proofs.book.Book.look.Goals as goal

pub show-requires-clause-recorded : goal.show-requires-clause-recorded
show-requires-clause-recorded c =
    let b = c.self.inside in
    let low : c.args.net < length b.problem.nets = subst (λ (k : Content). c.args.net < length k.problem.nets) (sym c.self.view_is) c.requires in
    (b.problem, (low, recorded b c.self.invariant))

pub returns : goal.returns
returns c =
    let b = c.self.inside in
    let Sees = λ (hs : List ℕ). SeesOthers b.problem c.args.net (list_in (lists_of_trees b.routes.trees.items) c.args.net) b.routes.usage.counts hs c.show.new.view in
    let low : c.args.net < length b.problem.nets = subst (λ (k : Content). c.args.net < length k.problem.nets) (sym c.self.view_is) c.requires in
    subst (λ now. Looks now c.args.view.now c.args.net (Ok _) c.show.new.view) c.self.view_is
    (looks_net b c.self.invariant c.args.view.now c.show.new.view c.args.net _
    (omega (arith, c.len.ensures, c.if-len-node_count.false, c.node_count.ensures.count, ap node_count_of c.device.ensures.device)) low
    (subst Sees c.histories-histories.ensures.exact (c.show.ensures b.problem (low, recorded b c.self.invariant))))
