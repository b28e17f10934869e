use Rattle.run_schedule.proofs.Notes.{PassesSome}
use Rattle.run_schedule.proofs.text.Text.pass_notes.Given as goal

abbrev pub invariant-loop : goal.invariant-loop
invariant-loop l = PassesSome l.count l.counter l.initial.self l.self
