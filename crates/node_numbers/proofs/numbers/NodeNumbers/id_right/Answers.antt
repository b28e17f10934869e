use Rattle.std.proofs.Common.{Some, sym, ap, ◌∙◌}
use Rattle.node_numbers.proofs.NumbersAtPlaces.{some_right, none_right}
use Rattle.node_numbers.proofs.numbers.NodeNumbers.id_right.Goals as goal

pub returns-then-is_wire : goal.returns-then-is_wire
returns-then-is_wire c =
    let wire = some_right c.args.self.now c.args.x c.args.y c.args.track c.number_right.ensures.limits (sym c.is_wire.ensures ∙ c.if-is_wire.true) in
    ap Some c.number_right.ensures.number ∙ sym wire

pub returns-else-is_wire : goal.returns-else-is_wire
returns-else-is_wire c = sym (none_right c.args.self.now c.args.x c.args.y c.args.track (sym c.is_wire.ensures ∙ c.if-is_wire.false))
