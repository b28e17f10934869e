use Rattle.std.proofs.Common.{rules}
use Rattle.runs.proofs.Telling.{tells_sent}
use Rattle.runs.proofs.lesser_widths.tell_last.Goals as goal

pub returns : goal.returns
returns g c = tells_sent c.finish.result c.new-printer.ensures c.put_last.ensures c.finish.ensures.prints (search rules) c.finish.ensures.empty c.finish.ensures.broken c.if-is_broken.false c.is_err.ensures.value
