use Rattle.net_file.proofs.Numbered.{none_numbered}
use Rattle.net_file.proofs.names.Names.new.Goals as goal

pub invariant_of-result : goal.invariant_of-result
invariant_of-result c = none_numbered c.new.result.items c.new-2.result c.new.ensures.items c.new-2.ensures.empty
