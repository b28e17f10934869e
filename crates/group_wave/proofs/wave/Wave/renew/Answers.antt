use Rattle.group_wave.proofs.Aimed.{put_serves, renewed_best, renewed_complete, renewed_origins, renewed_wave}
use Rattle.group_wave.proofs.wave.Wave.renew.Goals as goal

pub narrow-requires-clause-serves : goal.narrow-requires-clause-serves
narrow-requires-clause-serves g c = put_serves c.args.ground.now c.args.self.now c.put_best.new.self _ c.put_best.ensures c.requires.wave.boxes

pub returns-clause-wave : goal.returns-clause-wave
returns-clause-wave g c = renewed_wave c.args.ground.now c.args.self.now c.put_best.new.self c.narrow.new.self _ c.put_best.ensures c.narrow.ensures c.requires.wave

pub returns-clause-complete : goal.returns-clause-complete
returns-clause-complete g c = renewed_complete c.args.ground.now c.args.self.now c.put_best.new.self c.narrow.new.self _ c.put_best.ensures c.narrow.ensures c.requires.complete

pub returns-clause-best : goal.returns-clause-best
returns-clause-best g c = renewed_best c.args.ground.now c.args.self.now c.put_best.new.self c.narrow.new.self _ c.put_best.ensures c.narrow.ensures c.least_cost-least.ensures.least

pub returns-clause-origins : goal.returns-clause-origins
returns-clause-origins g c = renewed_origins c.args.ground.now c.args.self.now c.put_best.new.self c.narrow.new.self _ c.put_best.ensures c.narrow.ensures
