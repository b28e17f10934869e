use Rattle.route_report.proofs.Occupying.{place_room}
use Rattle.route_report.proofs.occupancy.occupy_along.Goals as goal

pub occupy_place-requires : goal.occupy_place-requires
occupy_place-requires c =
    place_room c.args.stretch c.args.by c.args.places.now c.loop-place.places c.loop-place.place c.requires c.loop-place.invariant.0
