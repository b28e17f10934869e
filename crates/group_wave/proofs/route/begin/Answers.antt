use Rattle.group_wave.proofs.Whole.{begun}
use Rattle.group_wave.proofs.route.begin.Goals as goal

pub returns-in_ok-start_source-in-None-clause-growth : goal.returns-in_ok-start_source-in-None-clause-growth
returns-in_ok-start_source-in-None-clause-growth g c _ = begun c.args.ground.now c.begin.new.self c.start_source.new.self c.args.tree.now c.requires.tree c.in_ok-start_source-in-None.ensures.wave c.in_ok-start_source-in-None.ensures.complete c.in_ok-start_source-in-None.ensures.best c.in_ok-begin.ensures.origins c.in_ok-start_source-in-None.ensures.origins
