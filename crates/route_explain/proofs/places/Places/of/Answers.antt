use Rattle.std.proofs.Common.{get_or}
use Rattle.std.proofs.lemmas.List.{get_or_default}
use Rattle.route_explain.proofs.Placed.{places_more}
use Rattle.route_explain.proofs.places.Places.of.Goals as goal

pub loop-place-preserved : goal.loop-place-preserved
loop-place-preserved c =
    places_more c.args.nodes.now c.loop-place.place (get_or c.args.nodes.now c.loop-place.place 0) c.loop-place.places c.add.new.self
    c.loop-place-test.true (get_or_default c.args.nodes.now c.loop-place.place _ _ c.loop-place-test.true) c.loop-place.invariant c.in_ok-add.ensures
