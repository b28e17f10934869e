-- Entries whose costs fit, where one is taken out.
use Rattle.std.proofs.Common.{ℕ, ◌∷◌, List, All, Option, Some, None, sym, subst}
use Rattle.std.specs.Prelude.{IfNone, IfSome}
use Rattle.std.specs.List.Sorted.{IsPermutation}
use Rattle.std.specs.List.{AllByRecursion}
use Rattle.std.proofs.lemmas.List.Sorted.{All-permutation}
use Rattle.std.proofs.lemmas.List.Elements.{All-from_recursion, recursion_from_All}
use Rattle.wave_queue.specs.declared.queue.QueueEntry.{QueueEntry}
use Rattle.wave_queue.specs.kept.Queues.{IsPast, Waiting, entry_of}
use Rattle.group_wave.specs.kept.WaveFields.{IsFitting}

module _ {K : Type 0} (value : K → ℕ) (greatest : ℕ) (old new : List Waiting) (fits : All (IsFitting greatest) old) where
  both : (e : Waiting) → IsPermutation old (e ∷ new) → AllByRecursion (IsFitting greatest) (e ∷ new)
  both e moved = recursion_from_All (IsFitting greatest) (e ∷ new) (All-permutation (IsFitting greatest) old (e ∷ new) moved fits)

  -- the one that is taken
  pub popped_fits : (e : Waiting) → IsPermutation old (e ∷ new) → IsFitting greatest e
  popped_fits e moved = (both e moved).0

  -- and those that are left
  pub left_fit : (r : Option (QueueEntry K)) (bound : ℕ) → IfSome r (λ e. IsPermutation old (entry_of value e ∷ new)) → IfNone r (IsPast old new bound) → All (IsFitting greatest) new
  left_fit None bound some none = subst (All (IsFitting greatest)) (sym none.same) fits
  left_fit (Some e) bound some none = All-from_recursion (IsFitting greatest) new (both (entry_of value e) some).1
