use Rattle.text_output.proofs.Printing.{prints_then}
use Rattle.route_explain.specs.Uses.{use_line}
use Rattle.route_explain.proofs.uses.put_use.Goals as goal

pub returns : goal.returns
unfolding use_line
returns g c =
    let word = rw c.use_word.ensures at c.push-2.ensures in
    let node = rw c.device.ensures.device at c.put_after.ensures in
    prints_then c.put_where.ensures (prints_then c.push.ensures (prints_then c.put_user.ensures
    (prints_then word (prints_then c.put_number.ensures (prints_then node c.push-3.ensures)))))
