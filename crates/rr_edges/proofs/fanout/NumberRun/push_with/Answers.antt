use Rattle.std.proofs.Common.{[], ◌∷◌, length, refl, ap, arith, length-append}
use Rattle.rr_edges.specs.kept.Fanouts.{number_in}
use Rattle.rr_edges.proofs.Pushes.{pushed_two, room_more}
use Rattle.rr_edges.proofs.fanout.NumberRun.push_with.Goals as goal

pub push_reserved-requires : goal.push_reserved-requires
push_reserved-requires c =
    let room = room_more (λ k. number_in k c.args.self ∷ number_in k c.args.other ∷ []) c.loop-place._place c.args.count c.loop-place.invariant.pushed c.requires.room c.loop-place-test.true in
    omega (arith, room)

pub push_reserved-requires-in-loop-place : goal.push_reserved-requires-in-loop-place
push_reserved-requires-in-loop-place c =
    let room = room_more (λ k. number_in k c.args.self ∷ number_in k c.args.other ∷ []) c.loop-place._place c.args.count c.loop-place.invariant.pushed c.requires.room c.loop-place-test.true in
    omega (arith, room, ap length c.push_reserved.ensures.items, length-append c.loop-place.list.items (c.loop-place.one ∷ []), c.push_reserved.ensures.capacity)

pub loop-place-preserved : goal.loop-place-preserved
loop-place-preserved c =
    let so_far = c.loop-place.invariant in
    let first = c.push_reserved.ensures in
    let next = c.push_reserved-in-loop-place.ensures in
    record {
      pushed = pushed_two (λ k. number_in k c.args.self ∷ number_in k c.args.other ∷ []) c.loop-place._place _ _
          so_far.pushed first.items first.capacity next.items next.capacity (rw (so_far.one, so_far.two) refl);
      one = omega (arith, so_far.one);
      two = omega (arith, so_far.two);
      small_one = omega (arith, so_far.small_one, c.requires.small.step);
      small_two = omega (arith, so_far.small_two, c.requires.other.step);
    }
