use Rattle.std.proofs.Common.{rules}
use Rattle.runs.proofs.Telling.{tells_sent}
use Rattle.runs.proofs.known.tell_known.Goals as goal

pub returns : goal.returns
returns g c = tells_sent c.finish.result c.new-printer.ensures c.put_known.ensures c.finish.ensures.prints (search rules) c.finish.ensures.empty c.finish.ensures.broken c.if-is_broken.false c.is_err.ensures.value
