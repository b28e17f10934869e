use Rattle.wave_queue.proofs.Marked.{unmarked}
use Rattle.wave_queue.proofs.marks.unmark.Goals as goal

pub returns : goal.returns
returns c = unmarked c.args.words.now c.args.place c.without_bit.result c.requires c.without_bit.ensures
