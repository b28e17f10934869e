use Rattle.std.proofs.Common.{◌*◌, length, ap, ◌∙◌, sym, subst}
use Rattle.arch_file.specs.declared.entries.Sides.{Sides}
use Rattle.rr_edges.specs.kept.Terminals.{wires_on, AreSides, opin_sides}
use Rattle.rr_edges.proofs.OpinDegrees.{tapped, wires_on-length, opin_wires, opin_sides_are}
use Rattle.rr_edges.proofs.device_graph.DeviceGraph.count_wires_of_opin.Goals as goal

pub returns-clause-count : goal.returns-clause-count
returns-clause-count c =
    let f = c.args.self.now in
    let a = c.args.node in
    let s = c.sides_of_opin-sides.result in
    let t = c.tapper_of_opin-tapper.result in
    let made = c.tapper_of_opin-tapper.ensures in
    let same = opin_wires f a c.requires ∙ ap (λ k. wires_on f k a.number a.x a.y (opin_sides f a)) (sym made.fc)
    ∙ ap (λ k. wires_on f t.fc k a.x a.y (opin_sides f a)) (sym made.number) ∙ ap (λ v. wires_on f t.fc t.number a.x a.y v) (sym c.sides_of_opin-sides.ensures) in
    let inside = subst (λ (v : Sides). AreSides f a.x a.y v) (sym c.sides_of_opin-sides.ensures) (opin_sides_are f a c.requires) in
    ap (λ n. n * c.count_sides.result) c.count_tapped.ensures.count ∙ ap (λ n. tapped f t.fc t.number * n) c.count_sides.ensures.count
    ∙ sym (ap length same ∙ wires_on-length f t.fc t.number a.x a.y s inside)
