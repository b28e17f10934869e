-- Marks on the corners or the places of an array: one for each column and row, in a list. Columns
-- and rows go from 0 to 101, where the pads of the largest array are.
use Rattle.std.specs.Prelude.{◌≡◌, ℕ, ◌+◌, ◌*◌, ◌<◌, Bool, false, if◌then◌else◌, List, length, get_or}
use Rattle.std.specs.List.{list_any}
use Rattle.rr_graph.specs.node.Kind.{Kind}
use Rattle.rr_graph.specs.node.Node.{Node}
use Rattle.rr_graph.specs.Fabric.{Fabric}
use Rattle.rr_graph.specs.Wires.{Place}
use Rattle.rr_graph.specs.Edges.{Corner, is_same_corner}
use Rattle.width_bound.specs.Cuts.{Cut, is_beside_inner, is_beside_outer, is_inner, is_outer, is_same_place}

abbrev pub rows : ℕ
rows = 102

abbrev pub mark_count : ℕ
mark_count = 10404

abbrev pub entry_of : (x y : ℕ) → ℕ
entry_of x y = x * rows + y

-- a mark for each column and row, which is set where the test passes
pub record AreMarks (test : (x y : ℕ) → Bool) (marks : List Bool) : Type 0 where
  pub whole : length marks ≡ mark_count
  pub tells : (x y : ℕ) → x < rows → y < rows → get_or marks (entry_of x y) false ≡ test x y

-- some of the corners is at a column and a row, some of the places of a kind
abbrev pub some_corner : List Corner → (x y : ℕ) → Bool
some_corner corners x y = list_any (is_same_corner (x, y)) corners

abbrev pub some_place : Kind → List Place → (x y : ℕ) → Bool
some_place kind places x y = list_any (is_same_place (kind, x, y)) places

-- an inner place, or else an outer one
abbrev pub is_on : Bool → Cut → Place → Bool
is_on inner cut p = if inner then is_inner cut p else is_outer cut p

-- one is beside the pin
abbrev pub is_beside : Bool → Fabric → Cut → Node → Bool
is_beside inner f cut pin = if inner then is_beside_inner f cut pin else is_beside_outer f cut pin
