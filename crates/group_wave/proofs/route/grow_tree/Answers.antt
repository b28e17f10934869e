use Rattle.std.proofs.Common.{arith, ap, sym, ◌∙◌, slice_index}
use Rattle.std.proofs.lemmas.Bool.{false≢true}
use Rattle.std.proofs.lemmas.Option.{IfSome_then}
use Rattle.wavefront.proofs.Wanted.{is_sink_at}
use Rattle.group_wave.proofs.Whole.{stuck, stuck_first, taken_more, whole}
use Rattle.group_wave.proofs.route.grow_tree.Goals as goal

pub returns-then-not-branch-clause-answer : goal.returns-then-not-branch-clause-answer
returns-then-not-branch-clause-answer g c = IfSome_then c.no_path.result c.no_path.ensures.found (λ found h. rw h.0 (rw c.first_sink.ensures (stuck_first c.args.ground.now c.requires.ground (c.in_ok-begin.ensures.shut c.if-not-branch.true h.1))))

pub loop-sink-init : goal.loop-sink-init
loop-sink-init g c = record {
  growth = c.in_ok-begin.ensures.growth c.if-not-branch.false;
  taken = λ k lt. absurd (omega (arith, lt));
}

pub starts_at-requires : goal.starts_at-requires
starts_at-requires g c =
    let at = ap (λ xs. slice_index xs c.loop-sink.sink-index) c.sinks-sink-items.ensures in
    let wanted = is_sink_at c.args.ground.now.space c.loop-sink.sink-index (rw c.sinks-sink-items.ensures at c.loop-sink-test.true) in
    omega (arith, at, c.requires.ground.space.sinks_in _ wanted, c.loop-sink-2.invariant.growth.wave.rows)

pub returns-then-not-branch-2-clause-answer : goal.returns-then-not-branch-2-clause-answer
returns-then-not-branch-2-clause-answer g c = IfSome_then c.no_path-then-not-branch-2.result c.no_path-then-not-branch-2.ensures.found (λ found h.
    let at = ap (λ xs. slice_index xs c.loop-sink.sink-index) c.sinks-sink-items.ensures in
    rw h.0 (rw at (stuck c.args.ground.now c.loop-sink-2.scratch.wave c.loop-sink-2.tree c.loop-sink.sink-index c.requires.ground c.loop-sink-2.invariant.growth c.loop-sink-2.invariant.taken (rw c.sinks-sink-items.ensures at c.loop-sink-test.true)
    (λ o. false≢true (sym c.loop-sink-2-test.true ∙ c.starts_at.ensures.1 (rw at o))) (c.in_ok-add_way.ensures.shut c.if-not-branch-2.true h.1))))

pub loop-sink-2-preserved : goal.loop-sink-2-preserved
loop-sink-2-preserved g c = record {
  growth = c.in_ok-add_way.ensures.growth c.if-not-branch-2.false;
  taken = λ k lt. c.in_ok-add_way.ensures.kept c.if-not-branch-2.false _ (is_sink_at c.args.ground.now.space k (let within = rw c.sinks-sink-items.ensures at c.loop-sink-test.true in omega (arith, lt, within))) (c.loop-sink-2.invariant.taken k lt);
}

pub loop-sink-preserved : goal.loop-sink-preserved
loop-sink-preserved g c = record {
  growth = c.loop-sink-2.invariant.growth;
  taken = taken_more c.args.ground.now c.loop-sink-2.scratch.wave c.loop-sink.sink-index c.loop-sink-2.invariant.taken (rw (← ap (λ xs. slice_index xs c.loop-sink.sink-index) c.sinks-sink-items.ensures) (c.starts_at.ensures.0 c.loop-sink-2-test.false));
}

pub returns-clause-answer : goal.returns-clause-answer
returns-clause-answer g c = whole c.args.ground.now c.loop-sink.scratch.wave c.loop-sink.tree c.loop-sink.sink-index c.requires.ground c.loop-sink.invariant.growth c.loop-sink.invariant.taken (rw c.sinks-sink-items.ensures at c.loop-sink-test.false)
