use Rattle.std.proofs.Common.{sym, ◌∙◌}
use Rattle.std.proofs.lemmas.Bool.{le-ltb}
use Rattle.channel_tables.proofs.Taps.{lands_on_step, lands_past, none_lands_beyond}
use Rattle.channel_tables.proofs.pins.is_tapped.Goals as goal

pub returns-then-track-width : goal.returns-then-track-width
returns-then-track-width c =
    sym (none_lands_beyond c.args.count c.args.width c.args.number c.args.track c.requires.some c.requires.wide c.if-track-width.true)

pub returns-then-tap-count : goal.returns-then-tap-count
returns-then-tap-count c =
    lands_on_step c.args.count c.args.width c.args.number c.args.track c.requires.some c.requires.wide c.if-track-width.false
    c.steps_on-steps.result c.steps_on-steps.ensures.steps c.if-tap-count.true

pub returns-else-tap-count : goal.returns-else-tap-count
returns-else-tap-count c =
    le-ltb _ _ c.if-tap-count.false
    ∙ sym (lands_past c.args.count c.args.width c.args.number c.args.track c.requires.some c.requires.wide c.if-track-width.false
    c.steps_on-steps.result c.steps_on-steps.ensures.steps c.if-tap-count.false)
