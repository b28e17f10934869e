-- What waits fits in the width of the keys.
use Rattle.std.proofs.Common.{◌≡◌, ℕ, List, ◌∷◌, Result, Ok, Err, rules}
use Rattle.std.specs.Prelude.{All, OnOk, OnErr}
use Rattle.std.specs.List.Sorted.{IsPermutation}
use Rattle.std.proofs.lemmas.List.Elements.{All-cons}
use Rattle.std.proofs.lemmas.List.Sorted.{All-permutation}
use Rattle.wave_queue.specs.kept.Queues.{Waiting}
use Rattle.group_wave.specs.kept.WaveFields.{IsFitting}

-- one entry more, or none
pub fits_more : {T E : Type 0} (r : Result T E) (greatest : ℕ) (e : Waiting) (old new : List Waiting) → OnOk r (IsPermutation (e ∷ old) new) → OnErr r (new ≡ old) → IsFitting greatest e → All (IsFitting greatest) old → All (IsFitting greatest) new
fits_more (Ok x) greatest e old new more none fits all = All-permutation (IsFitting greatest) (e ∷ old) new more (All-cons (IsFitting greatest) e old fits all)
fits_more (Err x) greatest e old new more none fits all = rw none all

pub on_ok : {T E P : Type 0} (r : Result T E) → P → OnOk r P
on_ok (Ok x) p = p
on_ok (Err x) p = search rules
