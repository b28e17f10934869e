use Rattle.std.proofs.Common.{sym, ◌∙◌}
use Rattle.run_schedule.proofs.Taken.{front_taken}
use Rattle.run_schedule.proofs.text.Text.take.Goals as goal

pub returns : goal.returns
returns c = front_taken c.args.self.now c.args.front.now _ (sym c.self.view_is ∙ c.in_ok-self-inside.ensures)
