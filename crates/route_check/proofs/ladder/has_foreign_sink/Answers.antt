use Rattle.std.proofs.Common.{sym, ◌∙◌, not, ◌&&◌}
use Rattle.routing_problem.specs.Problems.{is_sink}
use Rattle.route_tree.specs.Legality.{is_among}
use Rattle.route_check.proofs.SortedEnds.{some_end}
use Rattle.route_check.proofs.ladder.has_foreign_sink.Goals as goal

pub returns : goal.returns
returns c =
    let f = c.args.device.now in
    let sinks = c.args.sinks.now in
    c.has_foreign_end.ensures ∙ sym (some_end c.args.listing.now c.ends.result.now c.ends.ensures (λ b. is_sink f b && not (is_among sinks b)))
