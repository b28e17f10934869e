use Rattle.text_output.proofs.Printing.{prints_then}
use Rattle.run_log.specs.kept.LogTexts.{problem_text}
use Rattle.run_log.proofs.log_text.put_problem.Goals as goal

pub returns : goal.returns
unfolding problem_text
returns g c =
    let array = rw (c.nx.ensures.entry, c.ny.ensures.entry, c.device-device.ensures.device) at c.put_array.ensures in
    let nets = rw c.nets.ensures.count at c.put_amount.ensures in
    let mode = rw (c.mode_name.ensures, c.mode.ensures, c.device-device.ensures.device) at c.put_entry.ensures in
    let width = rw (c.width.ensures.entry, c.device-device.ensures.device) at c.put_amount-2.ensures in
    prints_then array (prints_then nets (prints_then mode width))
