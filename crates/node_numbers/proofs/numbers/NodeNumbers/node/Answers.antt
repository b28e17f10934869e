use Rattle.node_numbers.proofs.Order.{node_inverse}
use Rattle.node_numbers.proofs.numbers.NodeNumbers.node.Goals as goal

pub returns-clause-inverse : goal.returns-clause-inverse
returns-clause-inverse c = node_inverse c.args.self.now c.node_of.ensures.limits c.args.id c.node_of.result c.node_of.ensures.node
