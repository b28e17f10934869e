use Rattle.std.proofs.Common.{sym, ◌∙◌, arith}
use Rattle.route_tree.specs.Legality.{is_listed}
use Rattle.route_check.proofs.Earlier.{listed_on, listed_off, listed_end}
use Rattle.route_check.proofs.order.is_listed.Goals as goal

pub loop-row-preserved : goal.loop-row-preserved
loop-row-preserved c =
    c.loop-row.invariant
    ∙ listed_on c.args.device.now c.args.net.now.source c.args.listing.now c.loop-row.row (omega (arith, c.loop-row-test.true, c.len-row-end.ensures)) (sym c.may_begin.ensures ∙ c.if-not-may_begin.false)

pub returns-then-not-may_begin : goal.returns-then-not-may_begin
unfolding is_listed
returns-then-not-may_begin c =
    sym (c.loop-row.invariant
    ∙ listed_off c.args.device.now c.args.net.now.source c.args.listing.now c.loop-row.row (omega (arith, c.loop-row-test.true, c.len-row-end.ensures)) (sym c.may_begin.ensures ∙ c.if-not-may_begin.true))

pub returns : goal.returns
unfolding is_listed
returns c =
    sym (c.loop-row.invariant
    ∙ listed_end c.args.device.now c.args.net.now.source c.args.listing.now c.loop-row.row (omega (arith, c.loop-row-test.false, c.loop-row.auto.row-end, c.len-row-end.ensures)))
