use Rattle.std.proofs.Common.{sym, subst, ◌∙◌}
use Rattle.route_check.specs.kept.Judged.{IsReportedBy}
use Rattle.route_check.proofs.Judging.{early_free, reported_late}
use Rattle.route_check.proofs.ladder.list_fault.Goals as goal

pub dangles-requires-clause-once : goal.dangles-requires-clause-once
dangles-requires-clause-once c = (early_free c.args.device.now c.args.net.now.source c.args.net.now.sinks.now c.in_ok-listing.listing (sym c.early_fault.ensures ∙ c.in-None.is)).once

pub dangles-requires-clause-own : goal.dangles-requires-clause-own
dangles-requires-clause-own c = (early_free c.args.device.now c.args.net.now.source c.args.net.now.sinks.now c.in_ok-listing.listing (sym c.early_fault.ensures ∙ c.in-None.is)).own

pub dangles-requires-clause-some : goal.dangles-requires-clause-some
dangles-requires-clause-some c = (early_free c.args.device.now c.args.net.now.source c.args.net.now.sinks.now c.in_ok-listing.listing (sym c.early_fault.ensures ∙ c.in-None.is)).some

pub is_listed-listed-requires : goal.is_listed-listed-requires
is_listed-listed-requires c = (early_free c.args.device.now c.args.net.now.source c.args.net.now.sinks.now c.in_ok-listing.listing (sym c.early_fault.ensures ∙ c.in-None.is)).once

pub returns : goal.returns
returns c =
    let f = c.args.device.now in
    let source = c.args.net.now.source in
    let sinks = c.args.net.now.sinks.now in
    subst (λ ps. IsReportedBy f source sinks ps c.late_fault.result) c.in_ok-listing.ensures
    (reported_late f source sinks c.in_ok-listing.listing c.in_ok-reported-in-None.reported c.is_listed-listed.result c.late_fault.result
    (sym c.early_fault.ensures ∙ c.in-None.is) c.in_ok-reported-in-None.ensures c.is_listed-listed.ensures c.late_fault.ensures)
