use Rattle.std.proofs.Common.{◌≡◌, ◌<◌, ◌+◌, Some, subst, sym, ap, ◌∙◌}
use Rattle.std.specs.Prelude.{slice_get}
use Rattle.channel_tables.specs.Fabric.{Fabric}
use Rattle.channel_tables.specs.Channels.{wires_before, beginnings_of}
use Rattle.node_numbers.proofs.NodesFound.{column_of_number}
use Rattle.node_numbers.proofs.numbers.NodeNumbers.right_found.Goals as goal

pub beginning_at-wire-requires : goal.beginning_at-wire-requires
beginning_at-wire-requires c =
    subst (λ (t : Fabric). c.by_column-x.result.1 < wires_before t t.ny (t.ny + 1)) (sym c.self.view_is)
    (rw c.by_column-x.ensures.rest (column_of_number c.args.self.now c.args.at c.requires).next)

pub returns : goal.returns
returns c =
    let f = c.args.self.now in
    let column = column_of_number f c.args.at c.requires in
    let wire = subst (λ (t : Fabric). slice_get (beginnings_of t t.ny) c.by_column-x.result.1 ≡ Some c.beginning_at-wire.result) c.self.view_is c.beginning_at-wire.ensures in
    let there = ap (slice_get (beginnings_of f f.ny)) (sym c.by_column-x.ensures.rest) ∙ wire in
    rw (c.from.ensures, c.from-2.ensures, c.by_column-x.ensures.quotient) (column.found c.beginning_at-wire.result there)
