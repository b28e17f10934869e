use Rattle.std.proofs.Common.{sym}
use Rattle.width_search.proofs.Verifying.{verified_begun, verifying_begun}
use Rattle.runs.specs.kept.Negotiated.{Negotiated}
use Rattle.runs.specs.kept.Told.{TellsTo}
use Rattle.runs.proofs.Telling.{tells_none}
use Rattle.runs.proofs.Trying.{tries_unwanted, tries_without}
use Rattle.runs.proofs.lesser_widths.verify.Goals as goal

pub returns-in-None-clause-verified : goal.returns-in-None-clause-verified
returns-in-None-clause-verified g c =
    let comes_to = Negotiated g.G.Gate.accepted c.args.widths.now in
    λ start was. verified_begun comes_to start c.args.below c.args.report.now was

pub returns-then-below-eq0-clause-verified : goal.returns-then-below-eq0-clause-verified
returns-then-below-eq0-clause-verified g c =
    let comes_to = Negotiated g.G.Gate.accepted c.args.widths.now in
    λ start was. verified_begun comes_to start c.args.below c.args.report.now was

pub returns-clause-verified : goal.returns-clause-verified
returns-clause-verified g c =
    let comes_to = Negotiated g.G.Gate.accepted c.args.widths.now in
    λ start was. c.try_below.ensures.verified start (verifying_begun comes_to start c.args.below c.args.report.now c.in-Some.least.now was (sym c.in-Some.ensures.least))

pub returns-in-None-clause-tries : goal.returns-in-None-clause-tries
returns-in-None-clause-tries g c =
    let comes_to = Negotiated g.G.Gate.accepted c.args.widths.now in
    let sink = g.W.ByteSink in
    let prints = TellsTo sink.taken sink.failed c.args.words.now c.args.words.now c.args.is_broken.now c.args.is_broken.now in
    tries_without comes_to c.args.below c.args.report.now prints (tells_none _) c.args.report.now.least c.in-None.ensures.least

pub returns-then-below-eq0-clause-tries : goal.returns-then-below-eq0-clause-tries
returns-then-below-eq0-clause-tries g c =
    let comes_to = Negotiated g.G.Gate.accepted c.args.widths.now in
    let sink = g.W.ByteSink in
    let prints = TellsTo sink.taken sink.failed c.args.words.now c.args.words.now c.args.is_broken.now c.args.is_broken.now in
    tries_unwanted comes_to c.args.below c.args.report.now prints (tells_none _) c.args.report.now.least c.in-Some.least.now c.in-Some.ensures.least c.if-below-eq0.true
