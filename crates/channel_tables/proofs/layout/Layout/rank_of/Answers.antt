use Rattle.std.proofs.Common.{◌<◌, get_or, sym, ap, ◌∙◌, arith}
use Rattle.std.specs.Prelude.{◌==◌}
use Rattle.std.proofs.lemmas.Bool.{eq-eqb}
use Rattle.channel_tables.proofs.Ranges.{first_below, get_below}
use Rattle.channel_tables.specs.Wires.{type_of, rank_of}
use Rattle.channel_tables.proofs.layout.Layout.rank_of.Goals as goal

pub returns-then-types-first : goal.returns-then-types-first
unfolding rank_of
returns-then-types-first c =
    let f = c.args.self.now in
    let kind = type_of f.architecture.segments f.width in
    let within : c.loop-first.first < f.width = omega (arith, c.loop-first-test.true, c.width-first-end.ensures.entry) in
    let this = ap (λ ts. get_or ts c.loop-first.first 0) c.requires.types ∙ get_below kind f.width c.loop-first.first 0 within in
    let that = ap (λ ts. get_or ts c.args.track 0) c.requires.types ∙ get_below kind f.width c.args.track 0 c.requires.within in
    let first = first_below (λ t. kind t == kind c.args.track) f.width c.loop-first.first (omega arith) c.loop-first.invariant
    (λ _. eq-eqb (kind c.loop-first.first) (kind c.args.track) (sym this ∙ c.if-types-first.true ∙ that)) in
    rw first c.saturating_sub.ensures
