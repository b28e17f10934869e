use Rattle.std.proofs.Common.{◌∙◌, ap}
use Rattle.std.specs.Option.{unwrap_or}
use Rattle.route_tree.specs.Rows.{node_in}
use Rattle.wavefront.proofs.RowNodes.{row_node}
use Rattle.group_wave.proofs.route.row_of.Goals as goal

pub returns-clause-node : goal.returns-clause-node
returns-clause-node c = ap (node_in c.args.rows.now) (c.unwrap_or.ensures ∙ ap (λ o. unwrap_or o 0) c.find_row.ensures) ∙ row_node c.args.rows.now c.args.node c.requires
