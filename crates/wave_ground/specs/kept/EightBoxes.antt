-- Boxes in groups of eight.
use Rattle.std.specs.Prelude.{◌≡◌, ℕ, ◌+◌, ◌-◌, ◌*◌, ◌/◌, ◌%◌, ◌<◌, ◌≤◌, List, cond, get_or, min, slice_index}
use Rattle.routing_problem.specs.node.Kind.TheVariants.{Chanx, Chany}
use Rattle.wavefront.specs.Boxes.{BoundingBox}
use Rattle.wavefront.specs.kept.Bounds.{WireShape, gap}
use Rattle.wave_ground.specs.declared.eight_boxes.EightBoxes.{EightBoxes}
use Rattle.wave_ground.specs.declared.eight_boxes.Outlook.{Outlook}
use Rattle.wave_ground.specs.declared.eight_boxes.BoxSides.{BoxSides}

-- a coordinate in 16 bits
abbrev pub cut : ℕ → ℕ
cut coordinate = min coordinate 65535

-- this place of the eight has this box
pub record KeepsBox (boxes : EightBoxes) (lane : ℕ) (place : BoundingBox) : Type 0 where
  pub left : slice_index boxes.left lane ≡ cut place.left
  pub right : slice_index boxes.right lane ≡ cut place.right
  pub bottom : slice_index boxes.bottom lane ≡ cut place.bottom
  pub top : slice_index boxes.top lane ≡ cut place.top

-- this place of boxes in groups of eight has this box
abbrev pub StandsAt : List EightBoxes → (at : ℕ) (place : BoundingBox) → Type 0
StandsAt eights at place = (e : EightBoxes) → KeepsBox (get_or eights (at / 8) e) (at % 8) place

-- the distance from the wire to one of the boxes in the direction of the sides, and to the box with
-- the place before it
abbrev pub gap_at : BoxSides → (lane : ℕ) → ℕ
gap_at s lane = gap (slice_index s.lows lane) (slice_index s.highs lane) s.first s.last

abbrev pub gap_beside : BoxSides → (lane : ℕ) → ℕ
gap_beside s lane = gap (slice_index s.lows lane - 1) (slice_index s.highs lane) s.first s.last

-- at most the quotient of 65,536 and steps + 1, rounded up
pub record IsShare (steps share : ℕ) : Type 0 where
  pub few : steps < 128
  pub fits : share * (steps + 1) ≤ 65536 + (steps + 1)

-- the sides of eight boxes along a row, and along a column
abbrev pub columns_of : Outlook → EightBoxes → BoxSides
columns_of o boxes = record { lows = boxes.left; highs = boxes.right; first = o.x1; last = o.x2 }

abbrev pub rows_of : Outlook → EightBoxes → BoxSides
rows_of o boxes = record { lows = boxes.bottom; highs = boxes.top; first = o.y1; last = o.y2 }

-- the numbers of a wire from which bounds are computed
pub record IsOutlook (o : Outlook) (wire : WireShape) : Type 0 where
  pub kind : wire.kind ≡ cond o.is_column Chany Chanx
  pub steps : o.steps ≡ wire.steps
  pub few : o.steps < 128
  pub x1 : o.x1 ≡ cut wire.span.x1
  pub x2 : o.x2 ≡ cut wire.span.x2
  pub y1 : o.y1 ≡ cut wire.span.y1
  pub y2 : o.y2 ≡ cut wire.span.y2
