-- A law of tests.
use Rattle.std.proofs.Common.{◌≡◌, Bool, false, ap, ◌∙◌}
use Rattle.std.specs.Prelude.{◌||◌}
use Rattle.std.proofs.Math.Bool.{or-false, or_comm}

pub or_last : (a b : Bool) → (a || (b || false)) ≡ (b || a)
or_last a b = ap (λ c. a || c) (or-false b) ∙ or_comm a b
