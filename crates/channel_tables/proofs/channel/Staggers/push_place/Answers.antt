use Rattle.std.proofs.Common.{◌+◌, ◌-◌, ◌*◌, map, ap, ◌∙◌, arith}
use Rattle.std.specs.Prelude.{slice_get}
use Rattle.channel_tables.specs.Fabric.{numbers_below}
use Rattle.channel_tables.specs.Wires.{tracks_in}
use Rattle.channel_tables.specs.Channels.{wire_at}
use Rattle.channel_tables.proofs.WireTables.{wire_read_before}
use Rattle.channel_tables.proofs.channel.Staggers.push_place.Goals as goal

pub wire_through-wire-requires-clause-earlier : goal.wire_through-wire-requires-clause-earlier
wire_through-wire-requires-clause-earlier c = λ l.
    let f = c.args.self.now.layout.now in
    let place = c.args.place in
    let row = map (wire_at f c.args.self.now.places place) (numbers_below c.loop-track.track) in
    ap (λ ws. slice_get ws ((place - 2) * tracks_in f.mode f.width + c.loop-track.track)) (c.deref.ensures.value ∙ c.loop-track.invariant.0)
    ∙ wire_read_before f c.args.self.now.places place c.loop-track.track c.args.wires.now.items row l (omega (arith, c.tracks-track-end.ensures.tracks, c.loop-track-test.true)) c.requires.earlier
