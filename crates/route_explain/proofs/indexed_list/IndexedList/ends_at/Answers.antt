use Rattle.std.proofs.Common.{◌∙◌}
use Rattle.route_explain.proofs.Placed.{ends_there}
use Rattle.route_explain.proofs.indexed_list.IndexedList.ends_at.Goals as goal

pub returns : goal.returns
returns c = c.ends_at.ensures ∙ ends_there c.args.self.now.sinks c.args.self.now.pairs c.index.result.now c.index.ensures c.args.node
