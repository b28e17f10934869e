use Rattle.std.proofs.Common.{length, arith, subst, sym, ◌<◌}
use Rattle.std.proofs.lemmas.List.Elements.{All-contains, Contains-get_or}
use Rattle.routing_problem.specs.Problems.{IsNet, RoutingProblem, no_net}
use Rattle.routing_problem.proofs.Order.{node_count_below}
use Rattle.wavefront.specs.Growth.{space_of}
use Rattle.wavefront.proofs.Spaces.{is_space}
use Rattle.wave_ground.specs.kept.Tables.{AreTablesOf}
use Rattle.wave_ground.proofs.Opened.{wire_node}
use Rattle.wave_ground.proofs.ground.Ground.new.Goals as goal

pub returns-clause-facts : goal.returns-clause-facts
returns-clause-facts c =
    let p = c.problem-problem.result.now in
    let same = sym c.problem-problem.ensures in
    let there = subst (λ (r : RoutingProblem). c.args.net < length r.nets) same c.requires.net in
    let kept = subst (λ (r : RoutingProblem). AreTablesOf r.device c.tables-tables.result.now) same c.tables-tables.ensures in
    let tables = subst (AreTablesOf p.device) (sym c.tables.view_is) kept in
    let net = All-contains (IsNet p.device) p.nets _ c.of_net.ensures.limits.nets (Contains-get_or p.nets c.args.net no_net there) in
    record {
      space = rw c.borrowed.ensures (is_space (space_of p c.args.net c.args.view.now c.args.present c.args.bb)
          c.device.ensures.limits
          net
          (omega (arith, node_count_below p.device c.device.ensures.limits))
          c.requires.present c.len-bounds.ensures.others c.len-bounds.ensures.histories);
      tabled = tables.groups;
      driven = tables.drives;
      source = net.source;
      wires = wire_node p.device;
    }
