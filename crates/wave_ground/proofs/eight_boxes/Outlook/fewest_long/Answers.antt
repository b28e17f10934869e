use Rattle.std.proofs.Common.{refl}
use Rattle.wave_ground.proofs.LooksAtOnce.{column_seen, row_seen}
use Rattle.wave_ground.proofs.eight_boxes.Outlook.fewest_long.Goals as goal

pub returns-then-self : goal.returns-then-self
returns-then-self c wire lane place is lt keeps =
    column_seen c.args.self c.args.boxes.now wire lane place _ is keeps c.columns-columns.result c.rows-rows.result c.args.self.steps c.columns-columns.ensures c.rows-rows.ensures refl c.if-self.true (c.fewest_long.ensures lane lt)

pub returns-else-self : goal.returns-else-self
returns-else-self c wire lane place is lt keeps =
    row_seen c.args.self c.args.boxes.now wire lane place _ is keeps c.columns-columns.result c.rows-rows.result c.args.self.steps c.columns-columns.ensures c.rows-rows.ensures refl c.if-self.false (c.fewest_long-else-self.ensures lane lt)
