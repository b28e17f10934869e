use Rattle.std.proofs.Common.{◌∙◌}
use Rattle.route_tree.proofs.RowTests.{foreign}
use Rattle.route_tree.proofs.passes.has_foreign_sink.Goals as goal

pub returns-clause-foreign : goal.returns-clause-foreign
returns-clause-foreign c = c.has_foreign_row.ensures ∙ foreign c.args.device.now c.args.rows.now c.args.sinks.now c.mark_only.new.stamps c.mark_only.ensures.marked
