-- The types of tracks.
use Rattle.std.proofs.Common.{◌≡◌, ℕ, ◌<◌, List, length, map, get_or, ap, ◌∙◌, arith}
use Rattle.routing_problem.specs.Fabric.{numbers_below}
use Rattle.routing_problem.proofs.Ranges.{length_below, get_below}

pub type_found : (f : ℕ → ℕ) (n i : ℕ) (types : List ℕ) → types ≡ map f (numbers_below n) → i < length types → get_or types i 0 ≡ f i
type_found f n i types are l =
    let size : length types ≡ n = ap length are ∙ length_below f n in
    ap (λ ts. get_or ts i 0) are ∙ get_below f n i 0 (omega (arith, l, size))
