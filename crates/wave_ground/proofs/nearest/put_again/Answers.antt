use Rattle.std.proofs.Common.{subst}
use Rattle.std.proofs.lemmas.List.{get_or_default}
use Rattle.wave_ground.specs.kept.Boxes.{boxed}
use Rattle.wave_ground.specs.kept.EightBoxes.{StandsAt}
use Rattle.wave_ground.proofs.nearest.put_again.Goals as goal

pub returns-then-at-boxes-clause-put : goal.returns-then-at-boxes-clause-put
returns-then-at-boxes-clause-put c d lt =
    subst (λ b. StandsAt c.put_box.new.eights.items c.args.at (boxed b.place)) (get_or_default c.args.boxes.now c.args.at _ d lt) c.put_box.ensures.put
