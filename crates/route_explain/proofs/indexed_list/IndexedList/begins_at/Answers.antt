use Rattle.std.proofs.Common.{◌∙◌}
use Rattle.route_explain.proofs.Placed.{begins_there}
use Rattle.route_explain.proofs.indexed_list.IndexedList.begins_at.Goals as goal

pub returns : goal.returns
returns c = c.begins_at.ensures ∙ begins_there c.args.self.now.sinks c.args.self.now.pairs c.index.result.now c.index.ensures c.args.node
