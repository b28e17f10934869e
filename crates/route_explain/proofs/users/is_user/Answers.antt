use Rattle.std.proofs.Common.{◌==◌, ap, ◌∙◌}
use Rattle.std.specs.List.{list_any}
use Rattle.rr_graph.specs.Problems.{net_in}
use Rattle.route_explain.proofs.users.is_user.Goals as goal

pub returns-in-Some : goal.returns-in-Some
returns-in-Some c = λ lists all over.
    rw c.in-Some.is
    (c.has_number.ensures ∙ ap (list_any (λ i. (net_in c.args.problem.now.nets i).number == c.in-Some.number)) (c.nets_on-nets.ensures c.args.problem.now lists all over))
