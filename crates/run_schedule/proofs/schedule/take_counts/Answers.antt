use Rattle.run_schedule.proofs.Heading.{counts_taken, no_choices, no_nets, no_workers}
use Rattle.run_schedule.proofs.schedule.take_counts.Goals as goal

pub returns-in_err-workers : goal.returns-in_err-workers
returns-in_err-workers c = rw c.from_residual-in_err-workers.ensures (no_workers c.in_ok-pass_notes.ensures c.in_err-workers.ensures)

pub returns-in_err-pass_notes-2 : goal.returns-in_err-pass_notes-2
returns-in_err-pass_notes-2 c = rw c.from_residual-in_err-pass_notes-2.ensures (no_choices c.in_ok-pass_notes.ensures c.in_ok-workers.ensures c.in_err-pass_notes-2.ensures)

pub returns-in_err-nets : goal.returns-in_err-nets
returns-in_err-nets c = rw c.from_residual-in_err-nets.ensures (no_nets c.in_ok-pass_notes.ensures c.in_ok-workers.ensures c.in_ok-pass_notes-2.ensures c.in_err-nets.ensures)

pub returns : goal.returns
returns c = counts_taken c.in_ok-pass_notes.ensures c.in_ok-workers.ensures c.in_ok-pass_notes-2.ensures c.in_ok-nets.ensures
