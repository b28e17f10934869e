use Rattle.std.proofs.Common.{◌∙◌}
use Rattle.route_tree.proofs.Trees.{covers_rows}
use Rattle.route_tree.proofs.tree.covers_node.Goals as goal

-- src/tree.rt:152:1
pub returns : goal.returns
returns c = c.has_node.ensures ∙ covers_rows c.args.rows.now c.args.id c.requires
