use Rattle.std.proofs.Common.{subst}
use Rattle.text_output.specs.Printing.{PrintsTo}
use Rattle.text_output.proofs.Printing.{prints_then}
use Rattle.run_schedule.specs.ScheduleTexts.{turn_text}
use Rattle.run_schedule.proofs.Printed.{texts_more}
use Rattle.run_schedule.proofs.writing.put_turns.Goals as goal

pub loop-turn-preserved : goal.loop-turn-preserved
loop-turn-preserved g c =
    let sink = g.W.ByteSink in
    let s = c.args.out.now in
    let t = c.put_turn.new.out in
    let more = texts_more turn_text c.args.turns.now c.loop-turn.turn-index (record { worker = 0; net = 0; seen = 0 }) c.loop-turn-test.true in
    subst (PrintsTo sink s t) more (prints_then c.loop-turn.invariant c.put_turn.ensures)
