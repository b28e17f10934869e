-- A list of lists, one of which changes.
use Rattle.std.proofs.Common.{◌≡◌, ℕ, zero, suc, ◌+◌, ◌<◌, ◌≤◌, List, [], ◌∷◌, ◌++◌, length, get_or, set, refl, sym, ap, ◌∙◌, arith}
use Rattle.std.specs.List.{All}
use Rattle.std.specs.List.Sorted.{IsPermutation}
use Rattle.std.proofs.lemmas.List.{get_or-set_same, set-set, set-get_or, length_push}
use Rattle.std.proofs.lemmas.List.Elements.{All-nil, All-append}
use Rattle.std.proofs.lemmas.List.Sorted.{IsPermutation-append_left, IsPermutation-append_right, IsPermutation-sym, IsPermutation-trans, IsPermutation-to_front, IsPermutation-middle}
use Rattle.wave_queue.specs.kept.Queues.{all_of}

module _ {X : Type 0} where
  -- an element added at the end of a row is added to all
  pub all_more : (rows : List (List X)) (at : ℕ) (x : X) → at < length rows → IsPermutation (x ∷ all_of rows) (all_of (set rows at (get_or rows at [] ++ x ∷ [])))
  all_more [] at x within = absurd (omega arith)
  all_more (row ∷ rows) zero x within =
      IsPermutation-append_left (all_of rows) (x ∷ row) (row ++ x ∷ []) (IsPermutation-sym _ _ (IsPermutation-to_front row x))
  all_more (row ∷ rows) (suc at) x within =
      let front = IsPermutation-sym _ _ (IsPermutation-middle row x (all_of rows)) in
      IsPermutation-trans _ _ _ front (IsPermutation-append_right row _ _ (all_more rows at x (omega arith)))

  -- if every row is empty, there is no element
  pub none_in : (rows : List (List X)) → ((i : ℕ) → get_or rows i [] ≡ []) → all_of rows ≡ []
  none_in [] none = refl
  none_in (row ∷ rows) none = ap (λ (xs : List X). xs ++ all_of rows) (none 0) ∙ none_in rows (λ i. none (suc i))

  -- rows with the same elements, but for empty rows at the end, have the same elements in all
  pub same_in : (rows now : List (List X)) → ((i : ℕ) → get_or now i [] ≡ get_or rows i []) → all_of now ≡ all_of rows
  same_in [] now same = none_in now same
  same_in (row ∷ rows) [] same = sym (none_in (row ∷ rows) (λ i. sym (same i)))
  same_in (row ∷ rows) (other ∷ now) same =
      ap (λ (xs : List X). xs ++ all_of now) (same 0) ∙ ap (λ (xs : List X). row ++ xs) (same_in rows now (λ i. same (suc i)))

  -- what holds of each element in its row holds of all
  pub each_of : (P : X → Type 0) (rows : List (List X)) → ((i : ℕ) → All P (get_or rows i [])) → All P (all_of rows)
  each_of P [] each = All-nil P
  each_of P (row ∷ rows) each = All-append P row (all_of rows) (each 0) (each_of P rows (λ i. each (suc i)))

  -- an element removed from the end of a row is put back
  pub put_back : (rows : List (List X)) (at : ℕ) (row rest : List X) (x : X) → at < length rows → row ≡ get_or rows at row → row ≡ rest ++ x ∷ []
      → rows ≡ set (set rows at rest) at (get_or (set rows at rest) at [] ++ x ∷ [])
  put_back rows at row rest x within is end =
      let same : get_or (set rows at rest) at [] ≡ rest = get_or-set_same rows at rest [] within in
      let here : get_or rows at row ≡ rest ++ x ∷ [] = sym is ∙ end in
      sym (ap (λ (r : List X). set (set rows at rest) at (r ++ x ∷ [])) same
      ∙ set-set rows at rest (rest ++ x ∷ [])
      ∙ ap (set rows at) (sym here)
      ∙ set-get_or rows at row)

  -- ---- rows emptied one by one

  abbrev pub AreEmpty : (rows : List (List X)) → (low end : ℕ) → Type 0
  AreEmpty rows low end = (i : ℕ) → low ≤ i → i < end → get_or rows i [] ≡ []

  -- an empty row added at the end
  push_default : (rows : List (List X)) (i : ℕ) → get_or rows i [] ≡ [] → get_or (rows ++ [] ∷ []) i [] ≡ []
  push_default [] zero none = refl
  push_default [] (suc i) none = refl
  push_default (row ∷ rows) zero none = none
  push_default (row ∷ rows) (suc i) none = push_default rows i none

  pub none_more : (rows now : List (List X)) (count : ℕ) → now ≡ rows ++ [] ∷ [] → (length rows ≡ count) × ((i : ℕ) → get_or rows i [] ≡ [])
      → (length now ≡ count + 1) × ((i : ℕ) → get_or now i [] ≡ [])
  none_more rows now count more h = (
    ap length more ∙ length_push rows [] ∙ ap (λ n. n + 1) h.0,
    λ i. ap (λ xs. get_or xs i []) more ∙ push_default rows i (h.1 i),
  )
