use Rattle.route_check.specs.Routed.{IsRouted}
use Rattle.iteration.proofs.Successes.{routed_by}
use Rattle.iteration.proofs.negotiation.success.Goals as goal

pub unreachable-requires : goal.unreachable-requires
unreachable-requires g c =
    let routed = routed_by c.args.book.now c.in_ok-routing.ensures.sound c.requires.routed c.requires.within in
    let here : IsRouted c.args.problem.now c.in_ok-routing.routing = rw (c.requires.problem, c.in_ok-routing.ensures.trees) routed in
    let none = c.in_ok-check_routing.ensures.routed.1 here in
    absurd (cc)
