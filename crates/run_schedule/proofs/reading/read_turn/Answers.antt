use Rattle.run_schedule.proofs.Turning.{turn_read}
use Rattle.run_schedule.proofs.reading.read_turn.Goals as goal

pub returns-clause-read : goal.returns-clause-read
returns-clause-read c =
    let taken = rw c.again-ahead.ensures at c.take_turn.ensures in
    let h = c.in_ok-turn.ensures in
    turn_read c.in_ok-turn.turn taken h.readable h.turn.0 h.turn.1
