use Rattle.std.proofs.Common.{◌-◌, ◌*◌, take, drop, ap, ◌∙◌}
use Rattle.channel_tables.proofs.TrackOrder.{part_within, part_of_place}
use Rattle.channel_tables.proofs.layout.Layout.tracks_through.Goals as goal

pub slice_bounds-result-end : goal.slice_bounds-result-end
slice_bounds-result-end c =
    part_within c.args.self.now c.args.channel.now.places c.tracks-width.result c.tracks-width.ensures.tracks c.args.place c.deref.result.now c.requires.within (c.deref.ensures.value ∙ c.requires.tables.order)

pub returns : goal.returns
returns c =
    let place = c.args.place in
    let width = c.tracks-width.result in
    ap (λ k. take (place * width - k * width) (drop (k * width) c.deref.result.now)) c.saturating_sub.ensures
    ∙ part_of_place c.args.self.now c.args.channel.now.places width c.tracks-width.ensures.tracks place c.deref.result.now c.requires.within (c.deref.ensures.value ∙ c.requires.tables.order)
