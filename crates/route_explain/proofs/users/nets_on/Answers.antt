use Rattle.std.proofs.Common.{◌∙◌, ap}
use Rattle.route_report.specs.Overused.{Overuse}
use Rattle.route_explain.proofs.Covering.{nets_found, none_missed}
use Rattle.route_explain.proofs.users.nets_on.Goals as goal

pub returns-in-Ok : goal.returns-in-Ok
returns-in-Ok c = λ p lists all over.
    c.deref.ensures.value
    ∙ ap (λ (o : Overuse). o.nets) c.entry.view_is
    ∙ nets_found p lists c.args.nodes.now c.args.overused.now c.requires all c.args.node c.in-Ok.place c.binary_search.result
    c.index-overused-place.result c.in-Ok.is c.binary_search.ensures.position c.index-overused-place.is

pub returns-in-Err : goal.returns-in-Err
returns-in-Err c = λ p lists all over.
    none_missed p lists c.args.nodes.now c.args.overused.now c.requires all c.args.node c.in-Err.field-0 c.binary_search.result
    c.in-Err.is c.binary_search.ensures.position over
