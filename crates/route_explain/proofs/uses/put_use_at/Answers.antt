use Rattle.std.proofs.Common.{◌≡◌, true, ap, subst, sym, ◌∙◌}
use Rattle.std.specs.Prelude.{IfSome}
use Rattle.vpr_text.specs.Words.{words_at}
use Rattle.rr_graph.specs.Fabric.{Fabric}
use Rattle.route_file.specs.NodeLine.{node_on}
use Rattle.route_report.specs.Covered.{uses_of}
use Rattle.route_report.specs.Overused.{is_over}
use Rattle.report_run.specs.Named.{overused_on}
use Rattle.route_explain.proofs.Covering.{over_if}
use Rattle.route_explain.proofs.uses.put_use_at.Goals as goal

pub put_use_of-requires-clause-over : goal.put_use_of-requires-clause-over
put_use_of-requires-clause-over g c =
    let p = c.args.file.now.problem.now in
    let lines = c.args.file.now.lines.now in
    let uses = uses_of p c.args.file.now.routing.now in
    let node = c.overused_on-node.ensures
    ∙ ap (λ (f : Fabric). overused_on f c.deref.result.now lines c.args.index) c.device.ensures.device
    ∙ ap (λ us. overused_on p.device us lines c.args.index) (c.deref.ensures.value ∙ c.requires.uses) in
    subst (λ o. IfSome o (λ a. is_over p.device uses a ≡ true)) (sym node) (over_if p.device uses (node_on p.device (words_at lines c.args.index)))

pub returns : goal.returns
returns g c =
    rw (c.line_number-line.ensures, c.overused_on-node.ensures, c.device.ensures.device, c.deref.ensures.value, c.requires.uses) at c.put_use_of.ensures
