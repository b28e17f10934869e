-- How many tracks of a channel are of a type.
use Rattle.std.specs.Prelude.{ℕ, ◌==◌, count_by}
use Rattle.routing_problem.specs.Fabric.{Fabric, numbers_below}
use Rattle.routing_problem.specs.Wires.{track_type, tracks_in}

abbrev pub tracks_with : Fabric → (s : ℕ) → ℕ
tracks_with f s = count_by (λ t. track_type f t == s) (numbers_below (tracks_in f.mode f.width))
