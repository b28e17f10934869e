use Rattle.std.proofs.Common.{◌+◌, ◌*◌, map, arith, subst}
use Rattle.std.proofs.lemmas.List.{length-map}
use Rattle.rr_edges.specs.kept.Fanouts.{pins_at}
use Rattle.rr_edges.specs.kept.Pushes.{Pushes}
use Rattle.rr_edges.proofs.Pushes.{pushed_more, room_more}
use Rattle.rr_edges.proofs.fanout.Taps.push.Goals as goal

pub push_from-requires-clause-room : goal.push_from-requires-clause-room
push_from-requires-clause-room c =
    let taps = c.args.self in
    let at = c.loop-place._place in
    omega (
      arith,
      room_more (pins_at taps) at c.args.count c.loop-place.invariant.pushed c.requires.room c.loop-place-test.true,
      length-map taps.places.now (λ j. taps.start + at * taps.step + j),
    )

pub loop-place-preserved : goal.loop-place-preserved
loop-place-preserved c =
    let so_far = c.loop-place.invariant in
    let taps = c.args.self in
    let here : Pushes c.loop-place.list (pins_at taps c.loop-place._place) c.push_from.new.list =
    subst (λ s. Pushes c.loop-place.list (map (λ j. s + j) taps.places.now) c.push_from.new.list) so_far.start c.push_from.ensures in
    record {
      pushed = pushed_more (pins_at taps) c.loop-place._place so_far.pushed here;
      start = omega (arith, so_far.start);
      small = omega (arith, so_far.small, c.requires.small.step);
    }
