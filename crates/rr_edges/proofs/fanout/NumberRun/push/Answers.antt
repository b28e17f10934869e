use Rattle.std.proofs.Common.{arith}
use Rattle.rr_edges.specs.kept.Fanouts.{number_in}
use Rattle.rr_edges.proofs.Pushes.{pushed_mapped}
use Rattle.rr_edges.proofs.fanout.NumberRun.push.Goals as goal

pub loop-place-preserved : goal.loop-place-preserved
loop-place-preserved c =
    let so_far = c.loop-place.invariant in
    let run = c.args.self in
    let at = c.loop-place._place in
    record {
      pushed = pushed_mapped (λ k. number_in k run) at _ so_far.pushed so_far.number c.push_reserved.ensures.items c.push_reserved.ensures.capacity;
      number = omega (arith, so_far.number);
      small = omega (arith, so_far.small, c.requires.small.step);
    }
