use Rattle.wave_ground.proofs.LooksAtOnce.{column_seen, row_seen}
use Rattle.wave_ground.proofs.eight_boxes.Outlook.first_short.Goals as goal

pub returns-then-self : goal.returns-then-self
returns-then-self c wire place is keeps =
    column_seen c.args.self c.args.boxes.now wire 0 place _ is keeps c.columns-columns.result c.rows-rows.result 0 c.columns-columns.ensures c.rows-rows.ensures c.requires.steps c.if-self.true c.first_short.ensures

pub returns-else-self : goal.returns-else-self
returns-else-self c wire place is keeps =
    row_seen c.args.self c.args.boxes.now wire 0 place _ is keeps c.columns-columns.result c.rows-rows.result 0 c.columns-columns.ensures c.rows-rows.ensures c.requires.steps c.if-self.false c.first_short-else-self.ensures
