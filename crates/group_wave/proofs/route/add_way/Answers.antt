use Rattle.std.proofs.Common.{◌∙◌, sym, ap, ◌++◌}
use Rattle.route_tree.specs.Rows.{node_in, pairs_of, pairs_along}
use Rattle.wavefront.specs.Growth.{IsStart}
use Rattle.wavefront.proofs.RowNodes.{start_row, same_root}
use Rattle.group_wave.proofs.Added.{IsAdded, added_growth, added_kept, added_taken}
use Rattle.group_wave.proofs.Counted.{fewer_open}
use Rattle.group_wave.proofs.Shortcut.{shut}
use Rattle.group_wave.proofs.Traced.{taken_reached, taken_traced}
use Rattle.group_wave.proofs.route.add_way.Goals as goal
use Rattle.group_wave.proofs.route.add_way.Given.{Over}

pub returns-in_default-clause-shut : goal.returns-in_default-clause-shut
returns-in_default-clause-shut g c _ all = shut c.args.ground.now (pairs_of c.args.tree.now) c.args.scratch.now.wave c.take_sink.new.self c.requires.ground c.requires.growth.origins c.in_ok-sink.ensures.settles.origins (rw all at (rw c.in_default.is at c.in_ok-sink.ensures.spent))

pub trace-requires : goal.trace-requires
trace-requires g c = (c.args.ground.now, taken_reached c.args.ground.now c.take_sink.new.self c.in-Some.sink c.requires.ground c.in_ok-sink.ensures.settles.wave (rw c.in-Some.is at c.in_ok-sink.ensures.taken))

first_start : (g : Over) → (c : goal.After-as_slice g) → IsStart c.args.ground.now.space (pairs_of c.args.tree.now) c.in_ok-start.start
first_start g c =
    let traced = taken_traced c.args.ground.now c.take_sink.new.self _ _ c.in-Some.sink c.requires.ground c.in_ok-sink.ensures.settles.wave (rw c.in-Some.is at c.in_ok-sink.ensures.taken) c.in_ok-start.ensures in
    (c.requires.growth.origins c.in_ok-start.start).0 ((c.in_ok-sink.ensures.settles.origins c.in_ok-start.start).0 traced.start)

pub row_of-requires : goal.row_of-requires
row_of-requires g c = rw c.as_slice.ensures.rows (start_row c.args.ground.now.space c.args.tree.now c.in_ok-start.start c.as_slice.ensures.tree c.requires.growth.root (first_start g c).covered)

pub start_way-requires-clause-walk : goal.start_way-requires-clause-walk
start_way-requires-clause-walk g c =
    let taken = rw c.in-Some.is at c.in_ok-sink.ensures.taken in
    let traced = taken_traced c.args.ground.now c.take_sink.new.self _ _ c.in-Some.sink c.requires.ground c.in_ok-sink.ensures.settles.wave taken c.in_ok-start.ensures in
    rw c.deref-3.ensures.value (record {
      from = c.in_ok-start.start;
      sink = c.in-Some.sink;
      walk = traced.walk;
      wanted = taken.«open».0;
    })

added : (g : Over) → (c : goal.After-renew g) → IsAdded c.args.ground.now (pairs_of c.args.tree.now) c.trace.new.way.items c.args.scratch.now.wave c.take_sink.new.self c.leave_source.new.wave c.start_way.new.self c.in_ok-start.start c.in-Some.sink
added g c = record {
  ok = c.requires.ground;
  grown = c.requires.growth.grown;
  origins = c.requires.growth.origins;
  same = c.in_ok-sink.ensures.settles.origins;
  taken = rw c.in-Some.is at c.in_ok-sink.ensures.taken;
  traced = taken_traced c.args.ground.now c.take_sink.new.self _ _ c.in-Some.sink c.requires.ground c.in_ok-sink.ensures.settles.wave (rw c.in-Some.is at c.in_ok-sink.ensures.taken) c.in_ok-start.ensures;
  left = c.in_ok-leave_source.ensures;
  started = rw c.deref-3.ensures.value at c.in_ok-start_way.ensures.started;
}

pub returns-clause-growth : goal.returns-clause-growth
returns-clause-growth g c _ = added_growth _ _ _ _ _ _ _ _ _ (added g c) c.attach.new.self c.renew.new.self
    (ap (λ rows. node_in rows 0) c.in_ok-attach.ensures.rows ∙ same_root c.args.tree.now _ c.as_slice.ensures.tree ∙ c.requires.growth.root)
    (c.in_ok-attach.ensures.pairs ∙ ap (λ a. pairs_of c.args.tree.now ++ pairs_along a c.deref-2.result.now) (ap (λ rows. node_in rows c.row_of.result) (sym c.as_slice.ensures.rows) ∙ c.row_of.ensures.node) ∙ ap (λ way. pairs_of c.args.tree.now ++ pairs_along c.in_ok-start.start way) c.deref-2.ensures.value)
    c.renew.ensures.wave c.renew.ensures.complete c.renew.ensures.best c.renew.ensures.origins

pub returns-clause-kept : goal.returns-clause-kept
returns-clause-kept g c _ v wanted o = (c.renew.ensures.origins v).1 (added_kept _ _ _ _ _ _ _ _ _ (added g c) v wanted o)

pub returns-clause-less : goal.returns-clause-less
returns-clause-less g c _ =
    let ends = added_taken _ _ _ _ _ _ _ _ _ (added g c) in
    let same = c.renew.ensures.origins in
    fewer_open c.args.ground.now c.args.scratch.now.wave c.renew.new.self c.in-Some.sink (added g c).taken.«open».0 ends.0 ((same c.in-Some.sink).1 ends.1) (λ v wanted o. (same v).1 (added_kept _ _ _ _ _ _ _ _ _ (added g c) v wanted o))
