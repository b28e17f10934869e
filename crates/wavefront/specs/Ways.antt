-- Ways through a device as the nodes that they enter (Dijkstra 1959).
use Rattle.std.specs.Prelude.{◌≡◌, ℕ, List, [], ◌∷◌, Contains}
use Rattle.std.specs.List.{sum_by}
use Rattle.wavefront.specs.Space.{Space, HasEdge, IsInside, entry_cost}

-- a way along edges from a to b, entering these nodes, all inside the box
abbrev pub IsWay : Space → ℕ → List ℕ → ℕ → Type 0
IsWay s a [] b = a ≡ b
IsWay s a (v ∷ vs) b = HasEdge s a v × IsInside s v × IsWay s v vs b

abbrev pub way_cost : Space → List ℕ → ℕ
way_cost s way = sum_by (entry_cost s) way

-- no two are equal
abbrev pub AreDistinct : List ℕ → Type 0
AreDistinct [] = Unit {0}
AreDistinct (v ∷ vs) = (Contains vs v → ⊥) × AreDistinct vs
