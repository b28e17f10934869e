use Rattle.std.proofs.Common.{◌==◌, refl, sym, ap}
use Rattle.route_check.proofs.Climbing.{begun, climbed, ends_above, ends_met}
use Rattle.route_check.proofs.walks.climb.Goals as goal

pub loop-walks-init : goal.loop-walks-init
loop-walks-init c =
    begun c.args.net.now.source c.args.net.now.sinks.now c.args.listing.now c.requires.once c.args.walk c.requires.numbered c.args.start c.args.walks.now c.requires.walked
    c.requires.there c.requires.sink

pub loop-walks-preserved : goal.loop-walks-preserved
loop-walks-preserved c =
    climbed c.args.net.now.source c.args.net.now.sinks.now c.args.listing.now c.requires.once c.args.walk c.requires.numbered c.args.start c.args.walks.now c.requires.walked
    c.loop-walks.walks c.loop-walks.row c.loop-walks.invariant c.loop-walks-test.true c.in-Some.parent c.in-Some.ensures.0 c.in-Some.ensures.1

pub returns-in-None : goal.returns-in-None
returns-in-None c =
    ends_above c.args.net.now.source c.args.net.now.sinks.now c.args.listing.now c.requires.once c.args.walk c.requires.numbered c.args.start c.args.walks.now c.requires.walked
    c.loop-walks.walks c.loop-walks.row c.loop-walks.invariant c.loop-walks-test.true c.requires.there c.in-None.ensures _ (sym (ap (λ b. b == c.args.net.now.source) c.begin.ensures))

pub returns : goal.returns
returns c =
    ends_met c.args.net.now.source c.args.net.now.sinks.now c.args.listing.now c.requires.once c.args.walk c.requires.numbered c.args.start c.args.walks.now c.requires.walked
    c.loop-walks.walks c.loop-walks.row c.loop-walks.invariant c.loop-walks-test.false c.requires.there _ refl
