use Rattle.std.proofs.Common.{◌≡◌, length, ap, ◌∙◌, arith}
use Rattle.std.specs.List.{sum_by}
use Rattle.routing_problem.specs.Fabric.{numbers_below}
use Rattle.route_report.specs.Wirelength.{wirelength_of}
use Rattle.route_tree.specs.TreeLists.{lists_of_trees}
use Rattle.congestion_book.proofs.Lengths.{lengths_all}
use Rattle.congestion_book.proofs.routes.Routes.wirelength.Goals as goal

pub returns : goal.returns
returns c =
    let p = c.args.problem.now in
    let lists = lists_of_trees c.args.self.now.trees.items in
    let all : c.loop-net.net ≡ length p.nets = omega (arith, c.loop-net-test.false, c.loop-net.auto.net-end, c.nets-net-end.ensures.count) in
    c.loop-net.invariant.0 ∙ ap (λ n. sum_by (wirelength_of p lists) (numbers_below n)) all ∙ lengths_all p lists
