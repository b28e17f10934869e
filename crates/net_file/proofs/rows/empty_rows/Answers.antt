use Rattle.std.proofs.Common.{[], ◌∷◌, ◌++◌, ap, ◌∙◌}
use Rattle.net_file.proofs.Filing.{none_more}
use Rattle.net_file.proofs.rows.empty_rows.Goals as goal

pub loop-preserved : goal.loop-preserved
loop-preserved c =
    none_more c.loop.rows.items c.push.new.self.items c.loop.counter (c.in_ok-push.ensures.items ∙ ap (λ row. c.loop.rows.items ++ row ∷ []) c.new.ensures) c.loop.invariant
