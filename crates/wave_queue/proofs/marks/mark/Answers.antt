use Rattle.wave_queue.proofs.Marked.{marked}
use Rattle.wave_queue.proofs.marks.mark.Goals as goal

pub returns : goal.returns
returns c = marked c.args.words.now c.args.place c.with_bit.result c.requires c.with_bit.ensures
