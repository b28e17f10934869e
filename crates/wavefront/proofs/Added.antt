-- The ends of a tree, and of a way that joins it.
use Rattle.std.proofs.Common.{◌≡◌, ℕ, List, [], ◌∷◌, ◌++◌, Contains, ◌⊎◌, inl, inr, refl, ap, ◌∙◌, subst}
use Rattle.std.proofs.lemmas.List.{map-append}
use Rattle.std.proofs.lemmas.List.Elements.{Contains-append_left, Contains-append_right, Contains-append_cases}
use Rattle.route_tree.specs.Paths.{Pair, ends_of}
use Rattle.route_tree.specs.Rows.{pairs_along}
use Rattle.wavefront.specs.Space.{Space, HasEdge}
use Rattle.wavefront.specs.kept.Spaces.{IsSpace}
use Rattle.wavefront.specs.Growth.{IsGrown}
use Rattle.wavefront.specs.Growth.IsGrown.{alone, grown}
use Rattle.wavefront.proofs.Lists.{contains_none}
use Rattle.wavefront.proofs.WayNodes.{way_entered}

-- ---- the ends of pairs
pub ends_along : (a : ℕ) (way : List ℕ) → ends_of (pairs_along a way) ≡ way
ends_along a [] = refl
ends_along a (v ∷ vs) = ap (λ us. v ∷ us) (ends_along v vs)

pub ends_added : (tree : List Pair) (a : ℕ) (way : List ℕ) → ends_of (tree ++ pairs_along a way) ≡ ends_of tree ++ way
ends_added tree a way = map-append (λ p. p.1) tree (pairs_along a way) ∙ ap (λ vs. ends_of tree ++ vs) (ends_along a way)

pub ends_left : (tree : List Pair) (a : ℕ) (way : List ℕ) (v : ℕ) → Contains (ends_of tree) v → Contains (ends_of (tree ++ pairs_along a way)) v
ends_left tree a way v h = rw (ends_added tree a way) (Contains-append_left (ends_of tree) way v h)

pub ends_right : (tree : List Pair) (a : ℕ) (way : List ℕ) (v : ℕ) → Contains way v → Contains (ends_of (tree ++ pairs_along a way)) v
ends_right tree a way v h = rw (ends_added tree a way) (Contains-append_right (ends_of tree) way v h)

pub ends_cases : (tree : List Pair) (a : ℕ) (way : List ℕ) (v : ℕ) → Contains (ends_of (tree ++ pairs_along a way)) v → Contains (ends_of tree) v ⊎ Contains way v
ends_cases tree a way v h = Contains-append_cases (ends_of tree) way v (rw (ends_added tree a way) at h)

pub no_source : (space : Space) (v : ℕ) → IsSpace space → (u : ℕ) × HasEdge space u v → v ≡ space.net.source → ⊥
no_source space v ok (u, edge) e = ok.begins u (subst (λ x. HasEdge space u x) e edge)

-- an edge leads to each end of a tree
pub grown_entered : (space : Space) (tree : List Pair) (v : ℕ) → IsGrown space tree → Contains (ends_of tree) v → (u : ℕ) × HasEdge space u v
grown_entered space _ v alone h = absurd (contains_none v h)
grown_entered space _ v (grown tree a way b g least) h = elim (ends_cases tree a way v h) [
  | inl old ↦ grown_entered space tree v g old
  | inr new ↦ way_entered space a b v way least.extension.walk new
]
