use Rattle.std.proofs.Common.{rules, refl}
use Rattle.runs.proofs.Telling.{takes_text, tells_sent}
use Rattle.runs.proofs.left_trees.tell_stuck.Goals as goal

pub returns : goal.returns
returns g c =
    let sent = rw (c.netlist.ensures, c.problem.ensures.problem) at c.put_all_stuck.ensures in
    takes_text _ _ _ _ _ _ (tells_sent c.finish.result c.new-printer.ensures sent c.finish.ensures.prints (search rules) c.finish.ensures.empty c.finish.ensures.broken refl refl)
