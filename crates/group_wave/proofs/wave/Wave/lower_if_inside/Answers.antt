use Rattle.std.proofs.lemmas.Result.{on_ok_weaker}
use Rattle.group_wave.proofs.Beside.{target_outside, target_step}
use Rattle.group_wave.proofs.Entered.{entered_outside}
use Rattle.group_wave.proofs.Relaxed.{track_enters}
use Rattle.group_wave.proofs.wave.Wave.lower_if_inside.Goals as goal

pub returns-then-not-is_span_inside : goal.returns-then-not-is_span_inside
returns-then-not-is_span_inside g c =
    entered_outside c.args.ground.now c.requires.ground c.args.self.now c.requires.wave (g.K.Key.value c.args.step.label) c.args.to.wire c.args.to.parent c.requires.from
    (target_outside c.args.ground.now c.requires.ground c.args.step.group c.args.to.track c.args.to.wire c.requires.to c.args.span c.is_span_inside.result c.requires.span c.is_span_inside.ensures c.if-not-is_span_inside.true)

pub lower_bounded-requires-clause-from : goal.lower_bounded-requires-clause-from
lower_bounded-requires-clause-from g c =
    target_step c.args.ground.now c.requires.ground c.args.step.group c.args.to.track c.args.to.wire c.requires.to c.args.self.now (g.K.Key.value c.args.step.label) c.args.to.parent c.args.span c.is_span_inside.result
    c.requires.from c.requires.span c.is_span_inside.ensures c.if-not-is_span_inside.false

pub returns : goal.returns
returns g c = on_ok_weaker c.lower_bounded.result (track_enters c.args.ground.now c.args.self.now c.lower_bounded.new.self (g.K.Key.value c.args.step.label) (g.K.Key.value c.args.step.least) c.args.to.wire) c.lower_bounded.ensures
