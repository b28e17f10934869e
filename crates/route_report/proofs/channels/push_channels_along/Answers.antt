use Rattle.std.proofs.Common.{◌++◌, length, sym, ap, subst, ◌∙◌, arith}
use Rattle.routing_problem.proofs.Ranges.{length_below}
use Rattle.route_report.specs.Channels.{occupancies_in}
use Rattle.route_report.specs.kept.Channels.{AreSmall}
use Rattle.route_report.proofs.Occupying.{are_small, numbered_all}
use Rattle.route_report.proofs.channels.push_channels_along.Goals as goal

pub push_channels-requires-clause-count : goal.push_channels-requires-clause-count
push_channels-requires-clause-count c =
    ap length (c.deref.ensures.value ∙ c.in_ok-channels.ensures) ∙ length_below (occupancies_in c.args.device.now c.args.uses.now c.args.along.kind c.args.along.places) c.args.along.count

pub push_channels-requires-clause-small : goal.push_channels-requires-clause-small
push_channels-requires-clause-small c =
    subst AreSmall (sym (c.deref.ensures.value ∙ c.in_ok-channels.ensures))
    (are_small c.args.device.now c.args.uses.now (λ a. omega (arith, c.type_inv.uses a)) c.requires.limits c.args.along.kind c.args.along.places c.args.along.count c.requires.few)

pub returns : goal.returns
returns c =
    c.in_ok-push_channels.ensures
    ∙ ap (λ channels. c.args.list.now.items ++ channels)
    (numbered_all c.args.device.now c.args.uses.now c.args.along.kind c.args.along.places c.args.along.count c.deref.result.now (c.deref.ensures.value ∙ c.in_ok-channels.ensures))
