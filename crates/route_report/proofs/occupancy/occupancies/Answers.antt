use Rattle.std.proofs.Common.{◌≡◌, ◌+◌, ◌<◌, ◌^◌, length, sym, subst, arith}
use Rattle.routing_problem.specs.Nodes.{node_count_of}
use Rattle.route_report.specs.kept.Channels.{IsOccupied}
use Rattle.route_report.proofs.Counting.{written_back}
use Rattle.route_report.proofs.Occupying.{occupied_small, node_occupied, all_occupied}
use Rattle.route_report.proofs.occupancy.occupancies.Goals as goal

pub occupy_node-requires-clause-room : goal.occupy_node-requires-clause-room
occupy_node-requires-clause-room c =
    let f = c.args.device.now in
    let low : c.loop-node.node < 2 ^ 23 = omega (arith, c.loop-node-test.true, c.node_count-node-end.ensures.few) in
    occupied_small f c.args.uses.now c.args.kind c.args.places _ (λ a. omega (arith, c.type_inv.uses a)) c.loop-node.node low c.deref_mut.result.now
    (subst (IsOccupied f c.args.uses.now c.args.kind c.args.places c.args.count c.loop-node.node) (sym c.deref_mut.ensures.value) c.loop-node.invariant)

pub loop-node-preserved : goal.loop-node-preserved
loop-node-preserved c =
    let f = c.args.device.now in
    let uses = c.args.uses.now in
    let new = c.occupy_node.new.channels in
    let before = subst (IsOccupied f uses c.args.kind c.args.places c.args.count c.loop-node.node) (sym c.deref_mut.ensures.value) c.loop-node.invariant in
    let after = node_occupied f uses c.args.kind c.args.places _ c.loop-node.node c.deref_mut.result.now new before c.occupy_node.ensures in
    let made : c.loop-node.channels.len ≡ length new = omega (arith, after.size, c.loop-node.invariant.size, c.loop-node.channels.ok.0) in
    subst (IsOccupied f uses c.args.kind c.args.places c.args.count (c.loop-node.node + 1)) (sym (written_back new _ c.loop-node.channels.len made)) after

pub returns : goal.returns
returns c =
    let f = c.args.device.now in
    let uses = c.args.uses.now in
    let items = c.loop-node.channels.items in
    let all : c.loop-node.node ≡ node_count_of f = omega (arith, c.loop-node-test.false, c.loop-node.auto.node-end, c.node_count-node-end.ensures.count) in
    all_occupied f uses c.args.kind c.args.places c.args.count items
    (subst (λ n. IsOccupied f uses c.args.kind c.args.places c.args.count n items) all c.loop-node.invariant)
