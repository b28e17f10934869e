use Rattle.std.proofs.Common.{refl}
use Rattle.net_file.proofs.Judging.{nothing_seen}
use Rattle.net_file.proofs.seen.Seen.new.Goals as goal

pub returns : goal.returns
returns c = nothing_seen _ refl refl c.new.ensures c.new-2.ensures c.new-3.ensures
