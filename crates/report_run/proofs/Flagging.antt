-- A number more for a node more.
use Rattle.std.proofs.Common.{◌≡◌, ℕ, ◌+◌, List, [], ◌∷◌, ◌++◌, map, ap, ◌∙◌}
use Rattle.rr_graph.specs.Fabric.{numbers_below}
use Rattle.rr_graph.proofs.Ranges.{mapped_next}

pub flags_next : (g : ℕ → ℕ) (i : ℕ) (now new : List ℕ) → now ≡ map g (numbers_below i) → new ≡ now ++ g i ∷ [] → new ≡ map g (numbers_below (i + 1))
flags_next g i now new so_far more = more ∙ ap (λ ns. ns ++ g i ∷ []) so_far ∙ mapped_next g i
