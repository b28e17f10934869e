use Rattle.std.proofs.Common.{◌∷◌, [], ◌++◌, ap, ◌∙◌}
use Rattle.channel_tables.specs.kept.Tables.{stagger_of}
use Rattle.channel_tables.proofs.Ranges.{mapped_next}
use Rattle.channel_tables.proofs.layout.Layout.staggers.Goals as goal

pub loop-track-preserved : goal.loop-track-preserved
loop-track-preserved c =
    let g = stagger_of c.args.self.now c.args.places in
    let pushed = c.in_ok-push.ensures.items in
    let e = rw c.stagger_by.ensures at pushed in
    e ∙ ap (λ xs. xs ++ g c.loop-track.track ∷ []) c.loop-track.invariant ∙ mapped_next g c.loop-track.track
