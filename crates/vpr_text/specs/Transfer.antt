-- What a source of bytes gives, where its bytes are known (this project's profile).
use Rattle.std.specs.Prelude.{◌≡◌, ℕ, List, take, drop, Option, None, Some}

-- bytes are the first n of those that were left, or all of them, and the others are left
abbrev pub ReadsFront : ℕ → Option (List ℕ) → Option (List ℕ) → List ℕ → Type 0
ReadsFront n None new bytes = Unit {0}
ReadsFront n (Some xs) new bytes = (bytes ≡ take n xs) × (new ≡ Some (drop n xs))
