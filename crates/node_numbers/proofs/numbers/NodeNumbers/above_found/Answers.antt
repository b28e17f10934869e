use Rattle.std.proofs.Common.{◌≡◌, ◌<◌, ◌≤◌, ◌+◌, Some, refl, subst, sym, ap, ◌∙◌, arith}
use Rattle.std.specs.Prelude.{slice_get}
use Rattle.channel_tables.specs.Fabric.{Fabric}
use Rattle.channel_tables.specs.Channels.{wires_before, beginnings_of}
use Rattle.node_numbers.proofs.NodesFound.{row_of_number, index_above}
use Rattle.node_numbers.proofs.numbers.NodeNumbers.above_found.Goals as goal

pub beginning_at-requires : goal.beginning_at-requires
beginning_at-requires c =
    subst (λ (t : Fabric). c.by_rows.result < wires_before t t.nx (t.nx + 1)) (sym c.self.view_is) (rw c.by_rows.ensures (index_above c.args.self.now c.args.at c.requires))

pub wires_before-before-requires : goal.wires_before-before-requires
wires_before-before-requires c =
    let f = c.args.self.now in
    let rows = c.ny-rows.ensures.entry ∙ ap (λ (t : Fabric). t.ny) c.layout.ensures.layout in
    let begins = subst (λ (t : Fabric). slice_get (beginnings_of t t.nx) c.by_rows.result ≡ Some c.beginning_at.result) c.self.view_is c.beginning_at.ensures in
    let first = ap (slice_get (beginnings_of f f.nx)) (sym c.by_rows.ensures) ∙ begins in
    let row = row_of_number f c.args.at c.ny-rows.result c.from-x.result _ c.beginning_at.result rows first c.from-x.ensures refl in
    let within : c.from-x.result ≤ f.nx + 1 = omega (arith, row.upto) in
    subst (λ (t : Fabric). c.from-x.result ≤ t.nx + 1) (sym c.self.view_is) within

pub by_place-y-requires : goal.by_place-y-requires
by_place-y-requires c =
    let f = c.args.self.now in
    let rows = c.ny-rows.ensures.entry ∙ ap (λ (t : Fabric). t.ny) c.layout.ensures.layout in
    let begins = subst (λ (t : Fabric). slice_get (beginnings_of t t.nx) c.by_rows.result ≡ Some c.beginning_at.result) c.self.view_is c.beginning_at.ensures in
    let first = ap (slice_get (beginnings_of f f.nx)) (sym c.by_rows.ensures) ∙ begins in
    (row_of_number f c.args.at c.ny-rows.result c.from-x.result _ c.beginning_at.result rows first c.from-x.ensures refl).upto

pub overflow_sub-at : goal.overflow_sub-at
overflow_sub-at c =
    let f = c.args.self.now in
    let rows = c.ny-rows.ensures.entry ∙ ap (λ (t : Fabric). t.ny) c.layout.ensures.layout in
    let begins = subst (λ (t : Fabric). slice_get (beginnings_of t t.nx) c.by_rows.result ≡ Some c.beginning_at.result) c.self.view_is c.beginning_at.ensures in
    let first = ap (slice_get (beginnings_of f f.nx)) (sym c.by_rows.ensures) ∙ begins in
    let before = subst (λ (t : Fabric). c.wires_before-before.result ≡ wires_before t t.nx c.from-x.result) c.self.view_is c.wires_before-before.ensures.before in
    let row = row_of_number f c.args.at c.ny-rows.result c.from-x.result c.wires_before-before.result c.beginning_at.result rows first c.from-x.ensures before in
    row.below

pub beginning_at-track-requires : goal.beginning_at-track-requires
beginning_at-track-requires c =
    let f = c.args.self.now in
    let rows = c.ny-rows.ensures.entry ∙ ap (λ (t : Fabric). t.ny) c.layout.ensures.layout in
    let begins = subst (λ (t : Fabric). slice_get (beginnings_of t t.nx) c.by_rows.result ≡ Some c.beginning_at.result) c.self.view_is c.beginning_at.ensures in
    let first = ap (slice_get (beginnings_of f f.nx)) (sym c.by_rows.ensures) ∙ begins in
    let before = subst (λ (t : Fabric). c.wires_before-before.result ≡ wires_before t t.nx c.from-x.result) c.self.view_is c.wires_before-before.ensures.before in
    let row = row_of_number f c.args.at c.ny-rows.result c.from-x.result c.wires_before-before.result c.beginning_at.result rows first c.from-x.ensures before in
    subst (λ (t : Fabric). c.wires_before-before.result + c.by_place-y.result.1 < wires_before t t.nx (t.nx + 1)) (sym c.self.view_is) (rw c.by_place-y.ensures.rest row.next)

pub returns : goal.returns
returns c =
    let f = c.args.self.now in
    let rows = c.ny-rows.ensures.entry ∙ ap (λ (t : Fabric). t.ny) c.layout.ensures.layout in
    let begins = subst (λ (t : Fabric). slice_get (beginnings_of t t.nx) c.by_rows.result ≡ Some c.beginning_at.result) c.self.view_is c.beginning_at.ensures in
    let first = ap (slice_get (beginnings_of f f.nx)) (sym c.by_rows.ensures) ∙ begins in
    let before = subst (λ (t : Fabric). c.wires_before-before.result ≡ wires_before t t.nx c.from-x.result) c.self.view_is c.wires_before-before.ensures.before in
    let row = row_of_number f c.args.at c.ny-rows.result c.from-x.result c.wires_before-before.result c.beginning_at.result rows first c.from-x.ensures before in
    let track = subst (λ (t : Fabric). slice_get (beginnings_of t t.nx) (c.wires_before-before.result + c.by_place-y.result.1) ≡ Some c.beginning_at-track.result) c.self.view_is c.beginning_at-track.ensures in
    let there = ap (λ i. slice_get (beginnings_of f f.nx) (c.wires_before-before.result + i)) (sym c.by_place-y.ensures.rest) ∙ track in
    rw (c.from.ensures, c.by_place-y.ensures.quotient) (row.found c.beginning_at-track.result there)
