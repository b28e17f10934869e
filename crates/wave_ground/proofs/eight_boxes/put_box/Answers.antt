use Rattle.std.proofs.Common.{◌%◌, arith}
use Rattle.wave_ground.proofs.SideBySide.{elsewhere}
use Rattle.wave_ground.proofs.eight_boxes.put_box.Goals as goal

pub returns-clause-others : goal.returns-clause-others
returns-clause-others c other place ne stands =
    elsewhere c.args.eights.now.items c.put.new.self c.args.at other place (omega (arith, c.requires)) ne
    (λ apart keeps. c.put.ensures.others (other % 8) place apart (rw c.index_mut.ensures.value (keeps _))) stands
