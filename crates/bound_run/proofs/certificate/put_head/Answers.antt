use Rattle.text_output.proofs.Printing.{prints_then}
use Rattle.bound_run.specs.CutTexts.{head_text}
use Rattle.bound_run.proofs.certificate.put_head.Goals as goal

pub returns : goal.returns
unfolding head_text
returns g c =
    prints_then c.push.ensures (prints_then c.put_width_text.ensures (prints_then c.push-2.ensures (prints_then c.put_number.ensures (prints_then c.push-3.ensures (prints_then c.put_number-2.ensures
    (prints_then c.push-4.ensures (prints_then c.put_number-3.ensures c.push-5.ensures)))))))
