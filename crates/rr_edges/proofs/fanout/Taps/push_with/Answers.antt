use Rattle.std.proofs.Common.{◌+◌, ◌*◌, ◌++◌, map, ap, arith, length, length-append, refl}
use Rattle.std.proofs.lemmas.List.{length-map}
use Rattle.rr_edges.specs.kept.Fanouts.{pins_at}
use Rattle.rr_edges.proofs.Pushes.{pushed_both, room_more}
use Rattle.rr_edges.proofs.fanout.Taps.push_with.Goals as goal

pub push_from-requires-clause-room : goal.push_from-requires-clause-room
push_from-requires-clause-room c =
    let one = c.args.self in
    let two = c.args.other in
    let at = c.loop-place._place in
    let room = room_more (λ k. pins_at one k ++ pins_at two k) at c.args.count c.loop-place.invariant.pushed c.requires.room c.loop-place-test.true in
    omega (arith, room, length-append (pins_at one at) (pins_at two at), length-map one.places.now (λ j. one.start + at * one.step + j))

pub push_from-requires-in-loop-place-clause-room : goal.push_from-requires-in-loop-place-clause-room
push_from-requires-in-loop-place-clause-room c =
    let one = c.args.self in
    let two = c.args.other in
    let at = c.loop-place._place in
    let here = map (λ j. c.loop-place.one + j) one.places.now in
    let room = room_more (λ k. pins_at one k ++ pins_at two k) at c.args.count c.loop-place.invariant.pushed c.requires.room c.loop-place-test.true in
    omega (
      arith,
      room,
      length-append (pins_at one at) (pins_at two at),
      length-map one.places.now (λ j. one.start + at * one.step + j),
      length-map two.places.now (λ j. two.start + at * two.step + j),
      length-map one.places.now (λ j. c.loop-place.one + j),
      ap length c.push_from.ensures.items,
      length-append c.loop-place.list.items here,
      c.push_from.ensures.capacity,
    )

pub loop-place-preserved : goal.loop-place-preserved
loop-place-preserved c =
    let so_far = c.loop-place.invariant in
    let one = c.args.self in
    let two = c.args.other in
    let at = c.loop-place._place in
    record {
      pushed = pushed_both (λ k. pins_at one k ++ pins_at two k) at _ _ so_far.pushed c.push_from.ensures c.push_from-in-loop-place.ensures (rw (so_far.one, so_far.two) refl);
      one = omega (arith, so_far.one);
      two = omega (arith, so_far.two);
      small_one = omega (arith, so_far.small_one, c.requires.small.step);
      small_two = omega (arith, so_far.small_two, c.requires.other.step);
    }
