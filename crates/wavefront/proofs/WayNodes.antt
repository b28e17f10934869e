-- Ways and the nodes that they enter.
use Rattle.std.proofs.Common.{◌≡◌, ℕ, ◌+◌, ◌<◌, List, [], ◌∷◌, Contains, ◌⊎◌, inl, inr, rules}
use Rattle.std.proofs.lemmas.List.Sums.{sum_by-cons}
use Rattle.std.proofs.lemmas.Grind.{common_steps}
use Rattle.wavefront.specs.Space.{Space, HasEdge, IsInside, entry_cost}
use Rattle.wavefront.specs.kept.Spaces.{IsSpace, node_count}
use Rattle.wavefront.specs.Ways.{IsWay, way_cost}
use Rattle.wavefront.proofs.Lists.{contains_none, contains_first, contains_later, contains_cases}

pub way_cost_more : (space : Space) (v : ℕ) (vs : List ℕ) → way_cost space (v ∷ vs) ≡ entry_cost space v + way_cost space vs
way_cost_more space v vs = sum_by-cons _ v vs

pub way_cost_none : (space : Space) → way_cost space [] ≡ 0
way_cost_none space = search (rules, common_steps)

-- an edge leads to each node of a way
pub way_entered : (space : Space) (a b v : ℕ) (way : List ℕ) → IsWay space a way b → Contains way v → (u : ℕ) × HasEdge space u v
way_entered space a b v [] walk h = absurd (contains_none v h)
way_entered space a b v (u ∷ us) (edge, _, rest) h = elim (contains_cases u v us h) [
  | inl e ↦ (a, rw e edge)
  | inr later ↦ way_entered space u b v us rest later
]

-- each is inside
pub way_inside : (space : Space) (a b v : ℕ) (way : List ℕ) → IsWay space a way b → Contains way v → IsInside space v
way_inside space a b v [] walk h = absurd (contains_none v h)
way_inside space a b v (u ∷ us) (_, inside, rest) h = elim (contains_cases u v us h) [
  | inl e ↦ rw e inside
  | inr later ↦ way_inside space u b v us rest later
]

-- each is a node
pub way_in : (space : Space) (a b : ℕ) (way : List ℕ) → IsSpace space → IsWay space a way b → (v : ℕ) → Contains way v → v < node_count space
way_in space a b way ok walk v h = let (u, edge) = way_entered space a b v way walk h in ok.range u v edge

-- a way ends where it starts, or in a node that it enters
pub way_last : (space : Space) (a b : ℕ) (way : List ℕ) → IsWay space a way b → (a ≡ b) ⊎ Contains way b
way_last space a b [] e = inl e
way_last space a b (v ∷ vs) (_, _, rest) = elim (way_last space v b vs rest) [
  | inl e ↦ inr (rw (← e) (contains_first v vs))
  | inr h ↦ inr (contains_later v b vs h)
]
