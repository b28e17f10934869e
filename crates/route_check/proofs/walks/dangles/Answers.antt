use Rattle.std.proofs.Common.{sym, ◌∙◌}
use Rattle.route_check.proofs.InOrder.{joined_in_order}
use Rattle.route_check.proofs.walks.dangles.Goals as goal

pub returns-then-ends_in_sink : goal.returns-then-ends_in_sink
returns-then-ends_in_sink c =
    joined_in_order c.args.device.now c.args.net.now.source c.args.net.now.sinks.now c.args.listing.now (sym c.requires.listed ∙ c.if-listed.true) c.requires.own
    c.requires.some (sym c.ends_in_sink.ensures ∙ c.if-ends_in_sink.true)
