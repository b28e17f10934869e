use Rattle.std.proofs.Common.{◌+◌, get_or}
use Rattle.route_check.proofs.Walked.{walked_past}
use Rattle.route_check.proofs.walks.climb_from.Goals as goal

pub returns-in-None : goal.returns-in-None
returns-in-None c =
    walked_past c.args.net.now.source c.args.net.now.sinks.now c.args.listing.now (c.args.index + 1)
    (get_or c.args.net.now.sinks.now c.args.index 0) c.args.walks.now c.requires.walked c.in-None.ensures
