use Rattle.rr_edges.proofs.SinksOfPins.{sink_found, some_sink}
use Rattle.rr_edges.proofs.device_graph.DeviceGraph.sink_of.Goals as goal

pub returns-in-Some-clause-sink : goal.returns-in-Some-clause-sink
returns-in-Some-clause-sink c =
    let kind = rw c.in-Some-Ipin.field-0-is at c.in-Some-Ipin.ensures.kind in
    sink_found c.args.self.now c.in-Some.ensures.limits c.args.id c.in-Some.pin c.in-Some.ensures.node kind c.sink_beside.result c.sink_beside.ensures

pub returns-in-Some-clause-pin : goal.returns-in-Some-clause-pin
returns-in-Some-clause-pin c =
    let kind = rw c.in-Some-Ipin.field-0-is at c.in-Some-Ipin.ensures.kind in
    some_sink c.args.self.now c.in-Some.ensures.limits c.args.id c.in-Some.pin c.in-Some.ensures.node kind c.sink_beside.result c.sink_beside.ensures
