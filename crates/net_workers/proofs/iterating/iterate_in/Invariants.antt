use Rattle.net_workers.specs.kept.TurnLogs.{plan_of}
use Rattle.net_workers.proofs.iterating.iterate_in.Given as goal

abbrev pub ghosts-iterate_as-L-Ledger : goal.ghosts-iterate_as-L-Ledger
ghosts-iterate_as-L-Ledger g a = record { name = a.beginning.blank.name; parts = a.beginning.blank.parts }

abbrev pub ghosts-iterate_as-L-Round : goal.ghosts-iterate_as-L-Round
ghosts-iterate_as-L-Round g a = record { workers = a.options.workers; bb = a.options.bb; present = a.options.present; opening = a.beginning.book }

abbrev pub ghosts-iterate_as-L-Logged : goal.ghosts-iterate_as-L-Logged
ghosts-iterate_as-L-Logged g a = record { plan = plan_of a.beginning.book a.options.present a.options.bb a.options.workers; history = a.beginning.opened.seen.book }
