use Rattle.route_report.proofs.Occupying.{node_adds}
use Rattle.route_report.proofs.occupancy.occupy_node.Goals as goal

pub returns : goal.returns
returns c =
    node_adds c.args.device.now c.args.uses.now c.args.kind c.args.node c.stretch_of-stretch.result c.occupied_by-by.result c.use_at.result c.mode.result
    c.args.channels.now c.occupy_stretch.new.channels c.stretch_of-stretch.ensures c.mode.ensures c.use_at.ensures.uses c.occupied_by-by.ensures.occupied
    c.occupy_stretch.ensures
