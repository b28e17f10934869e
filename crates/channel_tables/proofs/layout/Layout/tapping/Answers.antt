use Rattle.std.proofs.Common.{◌≡◌, ℕ, List, ap, ◌∙◌, map, length, ◌+◌, arith}
use Rattle.std.specs.List.{flat_map}
use Rattle.channel_tables.specs.Fabric.{numbers_below}
use Rattle.channel_tables.specs.Wires.{tracks_in}
use Rattle.channel_tables.specs.Picks.{picks}
use Rattle.channel_tables.specs.kept.TappingTables.{taps_from}
use Rattle.channel_tables.proofs.TappingTables.{starts_more, places_more}
use Rattle.channel_tables.proofs.layout.Layout.tapping.Goals as goal

pub loop-track-preserved : goal.loop-track-preserved
loop-track-preserved c =
    let g : ℕ → List ℕ = λ t. picks (taps_from c.args.side c.args.self.now t) 0 c.args.pins.now in
    let so_far = c.loop-track.invariant in
    record {
      starts = starts_more g _ so_far.starts so_far.places (c.len.ensures ∙ c.loop-track.places.ok.0) c.in_ok-push.ensures.items;
      places = places_more g _ so_far.starts so_far.places c.in_ok-push_tapping.ensures.places;
      few = omega (arith, c.in_ok-push_tapping.ensures.few);
    }

pub returns : goal.returns
returns c =
    let g : ℕ → List ℕ = λ t. picks (taps_from c.args.side c.args.self.now t) 0 c.args.pins.now in
    let so_far = c.loop-track.invariant in
    let tracks : c.loop-track.track ≡ tracks_in c.args.self.now.mode c.args.self.now.width = omega (arith, c.tracks-track-end.ensures.tracks) in
    record {
      starts =
          starts_more g _ so_far.starts so_far.places (c.len-2.ensures ∙ c.loop-track.places.ok.0) c.in_ok-push-2.ensures.items
          ∙ ap (λ n. map (λ k. length (flat_map g (numbers_below k))) (numbers_below (n + 1))) tracks;
      places = so_far.places ∙ ap (λ n. flat_map g (numbers_below n)) tracks;
    }
