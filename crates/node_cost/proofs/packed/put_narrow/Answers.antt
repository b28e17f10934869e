use Rattle.node_cost.proofs.Packing.{bits_put}
use Rattle.node_cost.proofs.packed.put_narrow.Goals as goal

pub returns : goal.returns
returns c = bits_put c.args.words.now c.args.id c.args.number c.put_number.result c.requires.there c.put_number.ensures
