-- What the fields of a `Cut` mean, and what is true of the marks on one.
use Rattle.std.specs.Prelude.{Bool, List}
use Rattle.rr_graph.specs.node.Kind.TheVariants.{Chanx, Chany}
use Rattle.width_bound.specs.declared.cut.Cut.TheInside as cut
use Rattle.width_bound.specs.Cuts.{Cut}
use Rattle.width_bound.specs.kept.Marks.{AreMarks, some_corner, some_place}

abbrev pub cut_inside : cut.Inside → Cut
cut_inside c = record { corners = c.corners.items; places = c.places.items; pins = c.pins.items }

-- there are marks for the corners and the places of a cut
pub record AreMarksOf (cut : Cut) (corners above right : List Bool) : Type 0 where
  pub corners_are : AreMarks (some_corner cut.corners) corners
  pub above_are : AreMarks (some_place Chanx cut.places) above
  pub right_are : AreMarks (some_place Chany cut.places) right
