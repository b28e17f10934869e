use Rattle.std.proofs.Common.{rules, length}
use Rattle.net_workers.proofs.Counts.{all_once, all_free, once_all}
use Rattle.net_workers.proofs.comparison.is_done.Goals as goal

pub returns-clause-once : goal.returns-clause-once
returns-clause-once c = (
  (λ full. all_once c.args.book.now c.problem.ensures.sound (search rules)),
  (λ once. let full = once_all c.args.book.now.turns (length c.args.book.now.problem.nets) once in search rules),
)

pub returns-clause-free : goal.returns-clause-free
returns-clause-free c = λ full. all_free c.args.book.now c.problem.ensures.sound (search rules)
