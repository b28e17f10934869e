use Rattle.std.proofs.Common.{rules}
use Rattle.wave_queue.proofs.Marked.{marks_after}
use Rattle.wave_queue.proofs.marks.marks_from.Goals as goal

pub returns : goal.returns
returns c = marks_after c.args.words.now c.args.place (search rules)
