use Rattle.node_numbers.proofs.Order.{number_inverse}
use Rattle.node_numbers.proofs.numbers.NodeNumbers.id.Goals as goal

pub returns-clause-inverse : goal.returns-clause-inverse
returns-clause-inverse c = number_inverse c.args.self.now c.args.node c.id_of.result c.id_of.ensures
