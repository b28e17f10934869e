use Rattle.std.proofs.Common.{◌∙◌}
use Rattle.route_explain.proofs.Placed.{among_sinks}
use Rattle.route_explain.proofs.indexed_list.IndexedList.has_sink.Goals as goal

pub returns : goal.returns
returns c = c.has_sink.ensures ∙ among_sinks c.args.self.now.sinks c.args.self.now.pairs c.index.result.now c.index.ensures c.args.node
