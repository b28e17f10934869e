use Rattle.std.proofs.Common.{sym, ◌∙◌}
use Rattle.route_file.proofs.Related.{read_whole}
use Rattle.route_file.proofs.reading.read.Goals as goal

pub returns : goal.returns
returns c =
    let head = rw c.device.ensures.device at c.header_fault.ensures in
    let lists = rw c.device-2.ensures.device at c.in_ok-lists.ensures in
    read_whole c.args.netlist.now c.args.problem.now c.args.lines.now c.in_ok-lists.lists.items c.in_ok-routing.routing c.requires ((sym head) ∙ c.in_default.is) lists c.in_ok-routing.ensures
