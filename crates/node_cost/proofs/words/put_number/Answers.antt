use Rattle.node_cost.proofs.Shifts.{put_is}
use Rattle.node_cost.proofs.words.put_number.Goals as goal

pub returns : goal.returns
returns c = put_is c.args.word c.args.place c.number_at.result c.args.number c.requires.place c.number_at.ensures.exact c.requires.number
