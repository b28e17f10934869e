use Rattle.std.proofs.Common.{arith}
use Rattle.rr_edges.proofs.WireLists.{row_list-is}
use Rattle.rr_edges.proofs.device_graph.DeviceGraph.row_fanout.Goals as goal

pub returns-clause-list : goal.returns-clause-list
returns-clause-list c =
    let end = c.end-last.ensures in
    row_list-is c.args.self.now c.args.x c.args.y c.args.track _ c.requires.wire.0 (omega (arith, end.end, end.within.1)) c.taps_under.ensures.pins c.taps_over.ensures.pins (omega (arith, end.end)) (rw end.end at c.beside.ensures) c.meeting.ensures.meeting
