use Rattle.std.proofs.Common.{ap, ◌∙◌, refl}
use Rattle.std.specs.Prelude.{slice_get}
use Rattle.channel_tables.specs.Pins.{has_class}
use Rattle.rr_edges.proofs.Pushes.{pushed_next}
use Rattle.rr_edges.proofs.terminals.push_class.Goals as goal

pub loop-place-preserved : goal.loop-place-preserved
loop-place-preserved c =
    pushed_next (λ p. has_class (slice_get c.args.layout.now.architecture.pins p) c.args.class) c.args.pins.now c.args.start c.loop-place.place _
    c.loop-place.invariant c.loop-place-test.true c.has_class-is_of_class.result
    (c.has_class-is_of_class.ensures ∙ ap (λ q. has_class q c.args.class) c.pin.ensures) _ refl c.push_if.ensures
