use Rattle.std.proofs.Common.{◌+◌, Some, sym, ap, ◌∙◌, arith}
use Rattle.std.specs.Prelude.{nat_lt}
use Rattle.std.proofs.lemmas.Bool.{and_parts, ltb-true}
use Rattle.channel_tables.specs.Fabric.{is_pad}
use Rattle.node_numbers.proofs.NumbersAtPlaces.{some_pad, none_pad}
use Rattle.node_numbers.proofs.numbers.NodeNumbers.id_of_pad.Goals as goal

pub overflow_add-result : goal.overflow_add-result
overflow_add-result c =
    let f = c.args.self.now in
    let here = and_parts (is_pad f c.args.x c.args.y) (nat_lt c.args.number f.architecture.io_rat) (sym c.has_pad.ensures ∙ c.if-has_pad.true) in
    omega (arith, c.terminal_start.ensures.few, c.terminal_start.ensures.limits.limits.few_pads, ltb-true c.args.number f.architecture.io_rat here.1)

pub returns-then-has_pad : goal.returns-then-has_pad
returns-then-has_pad c =
    let f = c.args.self.now in
    let here = and_parts (is_pad f c.args.x c.args.y) (nat_lt c.args.number f.architecture.io_rat) (sym c.has_pad.ensures ∙ c.if-has_pad.true) in
    ap (λ s. Some (s + c.args.number)) c.terminal_start.ensures.start
    ∙ sym (some_pad f c.args.kind c.args.x c.args.y c.args.number c.requires.terminal c.terminal_start.ensures.limits c.requires.perimeter here.0 (ltb-true c.args.number f.architecture.io_rat here.1))

pub returns-else-has_pad : goal.returns-else-has_pad
returns-else-has_pad c =
    sym (none_pad c.args.self.now c.args.kind c.args.x c.args.y c.args.number c.requires.terminal c.requires.perimeter (sym c.has_pad.ensures ∙ c.if-has_pad.false))
