use Rattle.std.proofs.Common.{subst}
use Rattle.gates.specs.declared.schedule.ScheduledTurn.{ScheduledTurn}
use Rattle.run_schedule.specs.kept.Made.{MayFollow, TurnsMade}
use Rattle.run_schedule.specs.kept.Taking.{IsReadable}
use Rattle.run_schedule.proofs.Making.{can_be_read}
use Rattle.run_schedule.proofs.made.MadeTurns.accepted.Goals as goal

abbrev AreReadable : TurnsMade → Type 0
AreReadable m = (t : ScheduledTurn) → MayFollow m t → IsReadable t

pub returns-in_err-turn-clause-readable : goal.returns-in_err-turn-clause-readable
returns-in_err-turn-clause-readable c = subst AreReadable c.self.view_is (can_be_read c.self.invariant)

pub returns-in-None-clause-readable : goal.returns-in-None-clause-readable
returns-in-None-clause-readable c = subst AreReadable c.self.view_is (can_be_read c.self.invariant)

pub returns-in-Some-clause-readable : goal.returns-in-Some-clause-readable
returns-in-Some-clause-readable c = subst AreReadable c.self.view_is (can_be_read c.self.invariant)
