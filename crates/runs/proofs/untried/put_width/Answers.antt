use Rattle.text_output.proofs.Printing.{prints_then}
use Rattle.runs.specs.Untried.{gap_text}
use Rattle.runs.proofs.untried.put_width.Goals as goal

pub returns : goal.returns
unfolding gap_text
returns g c =
    let begin = rw (c.begins_gap-begins.ensures, c.gap_mark.ensures) at c.put_if.ensures in
    let end = rw c.ends_gap-ends.ensures at c.put_if-2.ensures in
    prints_then begin end
