use Rattle.std.proofs.lemmas.Bool.{ne_eqb}
use Rattle.text_output.proofs.Printing.{prints_then}
use Rattle.route_explain.proofs.text.put_line.Goals as goal

pub returns-then-line-ne0 : goal.returns-then-line-ne0
returns-then-line-ne0 g c =
    let some = ne_eqb c.args.line 0 c.if-line-ne0.true in
    rw some (prints_then c.push.ensures c.put_number.ensures)
