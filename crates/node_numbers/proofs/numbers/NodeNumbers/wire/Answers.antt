use Rattle.std.proofs.Common.{◌≡◌, ◌<◌, subst, sym, ◌∙◌, arith}
use Rattle.channel_tables.specs.Fabric.{Fabric}
use Rattle.channel_tables.specs.Wires.{tracks_in, reach_of}
use Rattle.node_numbers.proofs.FirstWire.{wire_from, wire_reported}
use Rattle.node_numbers.proofs.NumbersAtPlaces.{track_of_wire}
use Rattle.node_numbers.proofs.numbers.NodeNumbers.wire.Goals as goal

pub reach_of-requires : goal.reach_of-requires
reach_of-requires c =
    let here = sym c.node_of.ensures.node ∙ c.in-Some.is in
    subst (λ (f : Fabric). c.in-Some.node.number < tracks_in f.mode f.width) (sym c.self.view_is)
    (track_of_wire c.args.self.now c.args.id c.in-Some.node here
    (wire_from c.args.self.now c.first_wire.result c.args.id c.in-Some.node c.first_wire.ensures.wires (omega (arith, c.if-id-first_wire.false)) here))

pub returns-in-Some : goal.returns-in-Some
returns-in-Some c =
    let here = sym c.node_of.ensures.node ∙ c.in-Some.is in
    wire_reported c.args.self.now c.args.id c.in-Some.node c.span_of-span.result c.reach_of.result here
    (wire_from c.args.self.now c.first_wire.result c.args.id c.in-Some.node c.first_wire.ensures.wires (omega (arith, c.if-id-first_wire.false)) here)
    (c.span_of-span.ensures c.args.self.now c.last_of.ensures)
    (subst (λ (f : Fabric). c.reach_of.result ≡ reach_of f c.in-Some.node.number) c.self.view_is c.reach_of.ensures)
