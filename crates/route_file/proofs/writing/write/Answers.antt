use Rattle.std.proofs.Common.{rules, sym}
use Rattle.route_file.proofs.Sending.{writes_all, writes_front}
use Rattle.route_file.proofs.NetTexts.{text_filled}
use Rattle.route_file.proofs.writing.write.Goals as goal

pub returns-in-Ok : goal.returns-in-Ok
returns-in-Ok g c =
    writes_all c.new-printer.ensures c.put_text.ensures c.in-Ok.ensures.prints (search rules)
    (sym c.in-Ok.ensures.broken) c.in-Ok.ensures.empty (text_filled c.args.netlist.now c.args.placement.now c.args.problem.now c.args.routing.now)

pub returns : goal.returns
returns g c =
    writes_front c.new-printer.ensures c.put_text.ensures c.in-Err.ensures.prints (search rules)
    (sym c.in-Err.ensures.broken)
