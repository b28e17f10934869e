use Rattle.std.proofs.Common.{◌-◌, arith}
use Rattle.runs.specs.kept.Negotiated.{Negotiated}
use Rattle.runs.specs.kept.Told.{TellsTo}
use Rattle.runs.proofs.Telling.{tells_none, tells_then}
use Rattle.runs.proofs.Trying.{step_within, steps_ended, trying_begun, trying_ended, trying_failed, trying_more}
use Rattle.runs.proofs.Verified.{lesser_step, lesser_step_failed}
use Rattle.runs.proofs.lesser_widths.try_all.Goals as goal

pub loop-step-init : goal.loop-step-init
loop-step-init g c =
    let comes_to = Negotiated g.G.Gate.accepted c.args.widths.now in
    (omega arith, grind arith, (λ start v. v), trying_begun comes_to c.args.width c.args.report.now _ (tells_none _))

pub overflow_sub-lesser : goal.overflow_sub-lesser
overflow_sub-lesser g c =
    let in_range = step_within c.args.width c.args.count c.loop-step.step c.min-step-end.result c.saturating_add.result c.min-step-end.ensures c.saturating_add.ensures c.loop-step-test.true in
    omega (arith, in_range.1)

pub try_lesser-requires-clause-tracks : goal.try_lesser-requires-clause-tracks
try_lesser-requires-clause-tracks g c κs within =
    let in_range = step_within c.args.width c.args.count c.loop-step.step c.min-step-end.result c.saturating_add.result c.min-step-end.ensures c.saturating_add.ensures c.loop-step-test.true in
    (omega (arith, in_range.1), omega (arith, c.requires.tracks.1))

pub returns-in-Err-clause-tries : goal.returns-in-Err-clause-tries
returns-in-Err-clause-tries g c =
    let comes_to = Negotiated g.G.Gate.accepted c.args.widths.now in
    let sink = g.W.ByteSink in
    let in_range = step_within c.args.width c.args.count c.loop-step.step c.min-step-end.result c.saturating_add.result c.min-step-end.ensures c.saturating_add.ensures c.loop-step-test.true in
    trying_failed comes_to c.args.width c.args.report.now (TellsTo sink.taken sink.failed c.args.words.now c.loop-step.words c.args.is_broken.now c.loop-step.is_broken)
    (TellsTo sink.taken sink.failed c.loop-step.words c.try_lesser.new.words c.loop-step.is_broken c.try_lesser.new.is_broken)
    (TellsTo sink.taken sink.failed c.args.words.now c.try_lesser.new.words c.args.is_broken.now c.try_lesser.new.is_broken)
    (λ x y p q. tells_then p q) c.loop-step.report c.try_lesser.new.report c.loop-step.past c.loop-step.step c.args.count c.loop-step.routed c.loop-step.invariant.3
    in_range.0 in_range.1 (c.args.width - c.loop-step.step) c.in-Err.fault c.in-Err.ensures

pub returns-in-Err-clause-verified : goal.returns-in-Err-clause-verified
returns-in-Err-clause-verified g c =
    let comes_to = Negotiated g.G.Gate.accepted c.args.widths.now in
    λ start v. lesser_step_failed comes_to start c.args.count c.args.width c.loop-step.step c.loop-step.report c.try_lesser.new.report c.in-Err.ensures.1 (c.loop-step.invariant.2 start v)

pub loop-step-preserved : goal.loop-step-preserved
loop-step-preserved g c =
    let comes_to = Negotiated g.G.Gate.accepted c.args.widths.now in
    let sink = g.W.ByteSink in
    let in_range = step_within c.args.width c.args.count c.loop-step.step c.min-step-end.result c.saturating_add.result c.min-step-end.ensures c.saturating_add.ensures c.loop-step-test.true in
    let w = c.args.width - c.loop-step.step in (
      omega (arith, c.loop-step.invariant.0),
      grind (arith, c.loop-step-test.true),
      λ start v.
          lesser_step comes_to start c.args.count c.args.width c.loop-step.step w c.loop-step.report c.try_lesser.new.report
          (TellsTo sink.taken sink.failed c.loop-step.words c.try_lesser.new.words c.loop-step.is_broken c.try_lesser.new.is_broken) c.in-Ok.is_routed
          c.loop-step.invariant.0 in_range.0 (omega (arith, in_range.1)) c.in-Ok.ensures (c.loop-step.invariant.2 start v),
      trying_more comes_to c.args.width c.args.report.now (TellsTo sink.taken sink.failed c.args.words.now c.loop-step.words c.args.is_broken.now c.loop-step.is_broken)
          (TellsTo sink.taken sink.failed c.loop-step.words c.try_lesser.new.words c.loop-step.is_broken c.try_lesser.new.is_broken)
          (TellsTo sink.taken sink.failed c.args.words.now c.try_lesser.new.words c.args.is_broken.now c.try_lesser.new.is_broken)
          (λ x y p q. tells_then p q) c.loop-step.report c.try_lesser.new.report c.loop-step.past c.loop-step.step c.loop-step.routed c.loop-step.invariant.3
          w c.in-Ok.is_routed (omega (arith, in_range.1)) c.in-Ok.ensures c.least_with-routed.result c.least_with-routed.ensures,
    )

pub returns-clause-tries : goal.returns-clause-tries
returns-clause-tries g c =
    let comes_to = Negotiated g.G.Gate.accepted c.args.widths.now in
    let sink = g.W.ByteSink in
    let end =
    steps_ended c.args.width c.args.count c.loop-step.step c.min-step-end.result c.saturating_add.result c.min-step-end.ensures c.saturating_add.ensures
    c.requires.tracks.1 c.requires.tracks.0 c.loop-step.invariant.1 c.loop-step.invariant.0 c.loop-step-test.false in
    trying_ended comes_to c.args.width c.args.report.now (TellsTo sink.taken sink.failed c.args.words.now c.loop-step.words c.args.is_broken.now c.loop-step.is_broken)
    c.loop-step.report c.loop-step.past c.loop-step.step c.args.count c.loop-step.routed c.loop-step.invariant.3 end

pub returns-clause-verified : goal.returns-clause-verified
returns-clause-verified g c = λ start v. (c.loop-step.invariant.2 start v).verified
