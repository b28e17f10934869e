use Rattle.std.proofs.Common.{sym, ap, ◌∙◌}
use Rattle.std.specs.List.{filter}
use Rattle.routing_problem.specs.Fabric.{numbers_below}
use Rattle.routing_problem.specs.Nodes.{node_count_of}
use Rattle.routing_problem.specs.Problems.{net_in}
use Rattle.route_tree.specs.Usage.{covers_by}
use Rattle.route_report.proofs.Covering.{none_covered}
use Rattle.route_report.proofs.covered.covered_by_list.Goals as goal

pub returns-in-None : goal.returns-in-None
returns-in-None c =
    let net = net_in c.args.problem.now.nets c.args.net in
    let nodes = numbers_below (node_count_of c.args.problem.now.device) in
    c.new.ensures.items ∙ sym (ap (λ list. filter (covers_by net list) nodes) c.in-None.is ∙ none_covered net nodes)
