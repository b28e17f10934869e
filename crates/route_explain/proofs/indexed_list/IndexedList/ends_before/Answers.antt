use Rattle.std.proofs.Common.{◌∙◌}
use Rattle.route_explain.proofs.Placed.{ends_earlier}
use Rattle.route_explain.proofs.indexed_list.IndexedList.ends_before.Goals as goal

pub returns : goal.returns
returns c = c.ends_before.ensures ∙ ends_earlier c.args.self.now.sinks c.args.self.now.pairs c.index.result.now c.index.ensures c.args.node c.args.row
