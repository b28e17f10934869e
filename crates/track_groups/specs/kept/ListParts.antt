-- Lists that follow each other.
use Rattle.std.specs.Prelude.{ℕ, ◌≤◌, List, slice_range}
use Rattle.track_groups.specs.declared.rows.ListPart.{ListPart}
use Rattle.routing_problem.specs.Fabric.{Fabric}
use Rattle.track_groups.specs.Groups.{Grouping, on_track, IsOn, IsTrack}

-- the part lies in a list of that length
pub record IsListPart (count : ℕ) (p : ListPart) : Type 0 where
  pub ordered : p.start ≤ p.end
  pub within : p.end ≤ count

abbrev pub part_of : {T : Type 0} → List T → ListPart → List T
part_of xs p = slice_range xs p.start p.end

-- all that has to hold for the tracks of a group holds
abbrev pub HaveTracks : Fabric → Grouping → (group : ℕ) → Type 0
HaveTracks f t g = (j : ℕ) → IsOn t.groups (on_track g j) → IsTrack f t (on_track g j)
