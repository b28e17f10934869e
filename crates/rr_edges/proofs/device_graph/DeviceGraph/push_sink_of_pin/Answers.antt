use Rattle.std.proofs.Common.{sym, subst, ap, ◌∙◌}
use Rattle.rr_edges.specs.kept.Pushes.{Pushes}
use Rattle.rr_edges.specs.kept.PinSuccessors.{sink_of_pin}
use Rattle.rr_edges.proofs.Pushes.{pushed_none}
use Rattle.rr_edges.proofs.TerminalPlaces.{no_sink_of_pin}
use Rattle.rr_edges.proofs.device_graph.DeviceGraph.push_sink_of_pin.Goals as goal

pub returns-in-None : goal.returns-in-None
returns-in-None c =
    let f = c.args.self.now in
    let none = ap (λ p. sink_of_pin f p c.args.x c.args.y) c.in-None.is ∙ no_sink_of_pin f c.args.x c.args.y in
    subst (λ ns. Pushes c.args.list.now ns c.args.list.now) (sym none) (pushed_none c.args.list.now)
