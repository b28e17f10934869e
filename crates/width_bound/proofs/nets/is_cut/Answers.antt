use Rattle.width_bound.proofs.PinsLeft.{no_way_out}
use Rattle.width_bound.proofs.nets.is_cut.Goals as goal

pub returns : goal.returns
returns c =
    no_way_out c.args.device.now c.args.sides.now c.args.source c.args.sinks.now c.pin_count-count.result c.some_way_out.result c.pin_count-count.ensures
    c.some_way_out.ensures
