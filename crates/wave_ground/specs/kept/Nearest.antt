-- Bounds on the wires to the nearest sink, as they are kept.
use Rattle.std.specs.Prelude.{◌==◌, ◌*◌, ℕ, ◌<◌, ◌≤◌, List, All, map, cond, get_or, length, Option, Some, None}
use Rattle.wave_ground.specs.declared.nearest.Known.{Known}
use Rattle.wave_ground.specs.declared.nearest.Nearest.TheInside.{Inside}
use Rattle.wave_ground.specs.declared.nearest.SinkBox as kept
use Rattle.wave_ground.specs.declared.eight_boxes.EightBoxes.{EightBoxes}
use Rattle.wave_ground.specs.kept.Boxes.{SinkBox, boxed}
use Rattle.wave_ground.specs.kept.EightBoxes.{StandsAt}

-- boxes around sinks, and the bound of each group, if it is known
pub record Sights : Type 0 where
  pub boxes : List SinkBox
  pub known : List (Option ℕ)

abbrev pub sink_box : kept.SinkBox → SinkBox
sink_box b = record { place = boxed b.place; from = b.from; until = b.until }

-- the bound of a group, if it was kept since all boxes were last removed
abbrev pub known_of : (stamp : ℕ) → Known → Option ℕ
known_of stamp k = cond (k.stamp == stamp) (Some k.sight.wires) None

abbrev pub sights_of : Inside → Sights
sights_of n = record { boxes = map sink_box n.boxes.items; known = map (known_of n.stamp) n.known.items }

-- the boxes are also in the groups of eight
pub record StandSideBySide (boxes : List kept.SinkBox) (eights : List EightBoxes) : Type 0 where
  pub fit : length boxes ≤ 8 * length eights
  pub stand : (at : ℕ) (b : kept.SinkBox) → at < length boxes → StandsAt eights at (boxed (get_or boxes at b).place)

-- no stamp is later than the current one
pub record IsNearestInside (n : Inside) : Type 0 where
  pub stamped : All (λ k. k.stamp ≤ n.stamp) n.known.items
  pub eights : StandSideBySide n.boxes.items n.eights.items
