use Rattle.text_output.proofs.Printing.{prints_then}
use Rattle.run_log.specs.kept.LogTexts.{row_text}
use Rattle.run_log.proofs.log_text.put_row.Goals as goal

pub returns : goal.returns
unfolding row_text
returns g c =
    let iteration = rw (c.width-width.ensures.entry, c.device.ensures.device, c.problem.ensures.exact, c.present-present.ensures.exact) at c.put_iteration.ensures in
    let figures = rw (c.overused.ensures, c.excess.ensures, c.unrouted.ensures, c.wirelength.ensures) at c.put_figures.ensures in
    prints_then iteration (prints_then figures c.put_time.ensures)
