use Rattle.std.proofs.Common.{◌-◌, ◌≤◌, max}
use Rattle.route_report.specs.kept.Channels.{Adds}
use Rattle.route_report.proofs.Occupying.{reached}
use Rattle.route_report.proofs.occupancy.occupy_along.Given as goal

abbrev pub invariant-loop-place : goal.invariant-loop-place
invariant-loop-place l =
    Adds l.fn.places (reached l.fn.stretch l.by l.place) l.places × (l.place ≤ max (l.fn.stretch.first - 1) l.place-end) × (l.fn.stretch.first - 1 ≤ l.place)
