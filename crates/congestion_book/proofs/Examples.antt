-- Histories worked by hand: with a factor of 20, node 39 is overused by one in the first iteration,
-- and nodes 32, 38 and 39 in the second.
use Rattle.std.proofs.Common.{◌≡◌, List, [], ◌∷◌, refl}
use Rattle.congestion_book.specs.Histories.{Amount, history_of}

abbrev rows : List (List Amount)
rows = ((39, 1) ∷ []) ∷ ((32, 1) ∷ (38, 1) ∷ (39, 1) ∷ []) ∷ []

twice_overused : history_of 20 rows 39 ≡ 40
unfolding history_of
twice_overused = refl

once_overused : history_of 20 rows 38 ≡ 20
unfolding history_of
once_overused = refl

never_overused : history_of 20 rows 37 ≡ 0
unfolding history_of
never_overused = refl
