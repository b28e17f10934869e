use Rattle.runs.specs.kept.Negotiated.{Negotiated}
use Rattle.runs.specs.kept.Told.{TellsTo}
use Rattle.runs.proofs.Telling.{tells_then}
use Rattle.runs.proofs.Trying.{tried_all, tried_some}
use Rattle.runs.proofs.lesser_widths.try_below.Goals as goal

pub returns-in-Ok-clause-tries : goal.returns-in-Ok-clause-tries
returns-in-Ok-clause-tries g c =
    let comes_to = Negotiated g.G.Gate.accepted c.args.widths.now in
    let sink = g.W.ByteSink in
    tried_all comes_to c.args.width c.args.report.now (TellsTo sink.taken sink.failed c.args.words.now c.try_all-routed.new.words c.args.is_broken.now c.try_all-routed.new.is_broken)
    (TellsTo sink.taken sink.failed c.try_all-routed.new.words c.tell_last.new.words c.try_all-routed.new.is_broken c.tell_last.new.is_broken)
    (TellsTo sink.taken sink.failed c.args.words.now c.tell_last.new.words c.args.is_broken.now c.tell_last.new.is_broken)
    (λ x y p q. tells_then p q) c.args.count c.try_all-routed.new.report c.try_all-routed.result.past c.in-Ok.routed (rw c.in-Ok.is at c.try_all-routed.ensures.tries) c.tell_last.ensures

pub returns-in-Err-clause-tries : goal.returns-in-Err-clause-tries
returns-in-Err-clause-tries g c =
    let comes_to = Negotiated g.G.Gate.accepted c.args.widths.now in
    let sink = g.W.ByteSink in
    tried_some comes_to c.args.width c.args.report.now (TellsTo sink.taken sink.failed c.args.words.now c.try_all-routed.new.words c.args.is_broken.now c.try_all-routed.new.is_broken)
    (TellsTo sink.taken sink.failed c.try_all-routed.new.words c.tell_fault.new.words c.try_all-routed.new.is_broken c.tell_fault.new.is_broken)
    (TellsTo sink.taken sink.failed c.args.words.now c.tell_fault.new.words c.args.is_broken.now c.tell_fault.new.is_broken)
    (λ x y p q. tells_then p q) c.args.count c.try_all-routed.new.report c.try_all-routed.result.past c.in-Err.fault (rw c.in-Err.is at c.try_all-routed.ensures.tries) c.tell_fault.ensures
