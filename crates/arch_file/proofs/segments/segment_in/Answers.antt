use Rattle.arch_file.specs.SegmentLine.{segment_in}
use Rattle.arch_file.proofs.segments.segment_in.Goals as goal

pub returns : goal.returns
unfolding segment_in
returns c = cc (c.fixed_for.ensures, c.length_in.ensures, c.number_for.ensures, c.number_for-2.ensures)
