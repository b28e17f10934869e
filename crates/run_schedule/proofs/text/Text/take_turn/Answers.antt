use Rattle.run_schedule.proofs.Taken.{no_net, no_seen, no_worker, turn_taken}
use Rattle.run_schedule.proofs.text.Text.take_turn.Goals as goal

pub returns-in_err-net : goal.returns-in_err-net
returns-in_err-net c = rw c.from_residual.ensures (no_net c.in_err-net.ensures)

pub returns-in_err-worker : goal.returns-in_err-worker
returns-in_err-worker c = rw c.from_residual-in_err-worker.ensures (no_worker c.in_ok-net.ensures c.in_err-worker.ensures)

pub returns-in_err-seen : goal.returns-in_err-seen
returns-in_err-seen c = rw c.from_residual-in_err-seen.ensures (no_seen c.in_ok-net.ensures c.in_ok-worker.ensures c.in_err-seen.ensures)

pub returns : goal.returns
returns c = rw c.from.ensures (turn_taken c.in_ok-net.ensures c.in_ok-worker.ensures c.in_ok-seen.ensures)
