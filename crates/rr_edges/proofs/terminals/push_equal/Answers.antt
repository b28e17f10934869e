use Rattle.std.proofs.Common.{refl}
use Rattle.std.specs.Prelude.{◌==◌}
use Rattle.rr_edges.proofs.Pushes.{pushed_next}
use Rattle.rr_edges.proofs.terminals.push_equal.Goals as goal

pub loop-place-preserved : goal.loop-place-preserved
loop-place-preserved c =
    pushed_next (λ n. n == c.args.class) c.args.classes.now c.args.start c.loop-place.place _
    c.loop-place.invariant c.loop-place-test.true _ refl _ refl c.push_if.ensures
