use Rattle.std.proofs.lemmas.Result.{on_ok_weaker}
use Rattle.group_wave.proofs.Aimed.{begun_best, begun_complete, begun_origins, begun_wave}
use Rattle.group_wave.proofs.wave.Wave.begin.Goals as goal

pub returns-clause-wave : goal.returns-clause-wave
returns-clause-wave g c = on_ok_weaker c.aim.result (λ r. begun_wave c.args.ground.now c.args.self.now c.clear.new.self c.aim.new.self c.clear.ensures r c.requires.rows c.requires.known) c.aim.ensures.aimed

pub returns-clause-complete : goal.returns-clause-complete
returns-clause-complete g c = on_ok_weaker c.aim.result (λ r. begun_complete c.args.ground.now c.args.self.now c.clear.new.self c.aim.new.self c.clear.ensures r) c.aim.ensures.aimed

pub returns-clause-best : goal.returns-clause-best
returns-clause-best g c = on_ok_weaker c.aim.result (λ r. begun_best c.args.ground.now c.args.self.now c.clear.new.self c.aim.new.self c.clear.ensures r) c.aim.ensures.aimed

pub returns-clause-origins : goal.returns-clause-origins
returns-clause-origins g c = on_ok_weaker c.aim.result (λ r. begun_origins c.args.ground.now c.args.self.now c.clear.new.self c.aim.new.self c.clear.ensures r) c.aim.ensures.aimed
