use Rattle.std.proofs.Common.{◌∙◌, arith}
use Rattle.group_wave.proofs.FirstWays.{first_growth}
use Rattle.group_wave.proofs.Traced.{taken_reached, taken_traced}
use Rattle.group_wave.proofs.route.attach_first.Goals as goal

pub trace-requires : goal.trace-requires
trace-requires g c = (c.args.ground.now, taken_reached c.args.ground.now c.args.scratch.now.wave c.args.sink c.requires.ground c.requires.wave c.requires.taken)

pub start_way-requires-clause-walk : goal.start_way-requires-clause-walk
start_way-requires-clause-walk g c =
    let traced = taken_traced c.args.ground.now c.args.scratch.now.wave _ _ c.args.sink c.requires.ground c.requires.wave c.requires.taken c.in_ok-start.ensures in
    rw c.deref.ensures.value (record {
      from = c.in_ok-start.start;
      sink = c.args.sink;
      walk = traced.walk;
      wanted = c.requires.taken.«open».0;
    })

pub attach-requires : goal.attach-requires
attach-requires g c = rw c.requires.tree (omega arith)

pub returns : goal.returns
returns g c =
    let traced = taken_traced c.args.ground.now c.args.scratch.now.wave _ _ c.args.sink c.requires.ground c.requires.wave c.requires.taken c.in_ok-start.ensures in
    first_growth c.args.ground.now c.args.scratch.now.wave c.start_way.new.self c.renew.new.self c.args.tree.now c.attach.new.self _ c.in_ok-start.start c.args.sink c.trace.new.way.items _ c.requires.ground c.requires.origins c.requires.taken traced
    (rw c.deref.ensures.value at c.in_ok-start_way.ensures.started) c.requires.tree c.in_ok-attach.ensures.rows c.in_ok-attach.ensures.pairs (c.deref-2.ensures.value ∙ c.in_ok-insert.ensures.items)
    c.renew.ensures.wave c.renew.ensures.complete c.renew.ensures.best c.renew.ensures.origins
