use Rattle.std.proofs.Common.{arith}
use Rattle.wave_ground.proofs.SightRows.{none_known, off_old}
use Rattle.wave_ground.proofs.nearest.Nearest.new.Goals as goal

pub returns-clause-known : goal.returns-clause-known
returns-clause-known c =
    none_known 0 1 c.args.groups c.in_ok-nothing_known.field-0.items (omega arith) (off_old 0 c.in_ok-nothing_known.field-0.items c.in_ok-nothing_known.ensures.blank) c.in_ok-nothing_known.ensures.count
