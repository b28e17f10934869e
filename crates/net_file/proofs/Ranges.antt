-- The numbers from 0 on.
use Rattle.std.proofs.Common.{◌≡◌, ℕ, ◌+◌, ◌<◌, List, [], ◌∷◌, ◌++◌, length, take, get_or, map, fold, ap, ◌∙◌, add-one}
use Rattle.std.proofs.Math.Seq.{take-suc}
use Rattle.std.specs.List.{range_with_len}
use Rattle.std.proofs.lemmas.List.{map-append}
use Rattle.std.proofs.lemmas.List.Sums.{fold-append}
pub use Rattle.arch_file.proofs.Lists.{below_next}

pub map_next : {X : Type 0} (g : ℕ → X) (n : ℕ) → map g (range_with_len 0 (n + 1)) ≡ map g (range_with_len 0 n) ++ g n ∷ []
map_next g n = ap (map g) (below_next n) ∙ map-append g (range_with_len 0 n) (n ∷ [])

pub take_next : {X : Type 0} (xs : List X) (i : ℕ) (d : X) → i < length xs → take (i + 1) xs ≡ take i xs ++ get_or xs i d ∷ []
take_next xs i d lt = ap (λ n. take n xs) (add-one i) ∙ take-suc xs i d lt

pub fold_next : {A : Type 0} (f : A → ℕ → A) (a : A) (n : ℕ) → fold f a (range_with_len 0 (n + 1)) ≡ f (fold f a (range_with_len 0 n)) n
fold_next f a n = ap (fold f a) (below_next n) ∙ fold-append f a (range_with_len 0 n) (n ∷ [])
