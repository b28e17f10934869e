-- Entries in the buckets of their keys.
use Rattle.std.proofs.Common.{◌≡◌, inl, inr, ℕ, ◌+◌, ◌<◌, ◌≤◌, ◌-◌, min, max, List, [], ◌∷◌, ◌++◌, Some, length, map, get_or, set, refl, sym, ap, subst, ◌∙◌, arith}
use Rattle.std.specs.List.{All}
use Rattle.std.specs.List.Sorted.{IsPermutation}
use Rattle.std.proofs.lemmas.Bool.{cases_eq, cases_lt}
use Rattle.std.proofs.lemmas.List.{get_or-set_same, get_or-set_other, length-set}
use Rattle.std.proofs.lemmas.List.Elements.{All-nil, All-head, All-map, All-pop, All-push, All-weaker}
use Rattle.std.proofs.lemmas.List.Sorted.{length_permutation, IsPermutation-map, IsPermutation-sym}
use Rattle.wave_queue.specs.declared.queue.QueueEntry.{QueueEntry}
use Rattle.wave_queue.specs.kept.Buckets.{bucket_of}
use Rattle.wave_queue.specs.kept.Queues.{Waiting, entry_of, all_of, entries_of, IsPlaced, ArePlaced, IsBucketed, IsLowest, IsPast}
use Rattle.wave_queue.proofs.KeysInOrder.{key_below}
use Rattle.wave_queue.proofs.Rows.{AreEmpty, all_more, each_of, none_in, same_in}

module _ {K : Type 0} (value : K → ℕ) where
  -- the bounds may be wider
  wider : (low end low' end' i : ℕ) (e : QueueEntry K) → low' ≤ low → end ≤ end' → IsPlaced value low end i e → IsPlaced value low' end' i e
  wider low end low' end' i e down up h = record {
    here = h.here;
    from = omega (arith, h.from, down);
    until = omega (arith, h.until, up);
  }

  -- ---- an entry added
  placed_more : (rows : List (List (QueueEntry K))) (low end low' end' at : ℕ) (x : QueueEntry K) → at < length rows → bucket_of (value x.key) ≡ at → low' ≡ min low at → end' ≡ max end (at + 1)
      → ArePlaced value low end rows → ArePlaced value low' end' (set rows at (get_or rows at [] ++ x ∷ []))
  placed_more rows low end low' end' at x within is down up placed i =
      let before : All (IsPlaced value low' end' i) (get_or rows i []) = All-weaker (IsPlaced value low end i) (IsPlaced value low' end' i) (λ e h. wider low end low' end' i e (omega (arith, down)) (omega (arith, up)) h) (get_or rows i []) (placed i) in
      elim (cases_eq i at) [
        | inl same ↦
            let last : IsPlaced value low' end' i x = record { here = is ∙ sym same; from = omega (arith, down, same); until = omega (arith, up, same) } in
            let row : get_or (set rows at (get_or rows at [] ++ x ∷ [])) i [] ≡ get_or rows i [] ++ x ∷ [] =
            ap (λ n. get_or (set rows at (get_or rows at [] ++ x ∷ [])) n []) same
            ∙ get_or-set_same rows at (get_or rows at [] ++ x ∷ []) [] within
            ∙ ap (λ n. get_or rows n [] ++ x ∷ []) (sym same) in
            subst (λ (es : List (QueueEntry K)). All (IsPlaced value low' end' i) es) (sym row) (All-push (IsPlaced value low' end' i) (get_or rows i []) x before last)
        | inr other ↦ subst (λ (es : List (QueueEntry K)). All (IsPlaced value low' end' i) es) (sym (get_or-set_other rows at i (get_or rows at [] ++ x ∷ []) [] other)) before
      ]

  pub bucketed_more : (rows now : List (List (QueueEntry K))) (low end low' end' count at : ℕ) (x : QueueEntry K) → now ≡ set rows at (get_or rows at [] ++ x ∷ []) → bucket_of (value x.key) ≡ at → at < length rows
      → low' ≡ min low at → end' ≡ max end (at + 1) → IsBucketed value rows low end count → IsBucketed value now low' end' (count + 1)
  bucketed_more rows now low end low' end' count at x is here within down up h =
      let placed = placed_more rows low end low' end' at x within here down up h.placed in
      let one : length (all_of (set rows at (get_or rows at [] ++ x ∷ []))) ≡ length (x ∷ all_of rows) = length_permutation _ _ (all_more rows at x within) in
      subst (λ (rs : List (List (QueueEntry K))). IsBucketed value rs low' end' (count + 1)) (sym is) (record {
        placed = placed;
        within = omega (arith, up, within, h.within, length-set rows at (get_or rows at [] ++ x ∷ []));
        counted = omega (arith, one, h.counted);
      })

  -- ---- empty rows added
  pub bucketed_same : (rows now : List (List (QueueEntry K))) (low end count : ℕ) → ((i : ℕ) → get_or now i [] ≡ get_or rows i []) → length rows ≤ length now → IsBucketed value rows low end count → IsBucketed value now low end count
  bucketed_same rows now low end count same more h = record {
    placed = λ i. subst (λ (es : List (QueueEntry K)). All (IsPlaced value low end i) es) (sym (same i)) (h.placed i);
    within = omega (arith, h.within, more);
    counted = ap length (same_in rows now same) ∙ h.counted;
  }

  pub entries_same : (rows now : List (List (QueueEntry K))) (es : List Waiting) → ((i : ℕ) → get_or now i [] ≡ get_or rows i []) → entries_of value rows ≡ es → entries_of value now ≡ es
  entries_same rows now es same view = ap (map (entry_of value)) (same_in rows now same) ∙ view

  pub entries_more : (rows now : List (List (QueueEntry K))) (at : ℕ) (x : QueueEntry K) (es : List Waiting) → now ≡ set rows at (get_or rows at [] ++ x ∷ []) → at < length rows → entries_of value rows ≡ es
      → IsPermutation (entry_of value x ∷ es) (entries_of value now)
  entries_more rows now at x es is within view =
      let moved : IsPermutation (x ∷ all_of rows) (all_of now) = rw is (all_more rows at x within) in
      subst (λ (ws : List Waiting). IsPermutation (entry_of value x ∷ ws) (entries_of value now)) view (IsPermutation-map (entry_of value) (x ∷ all_of rows) (all_of now) moved)

  -- ---- an entry removed
  placed_less : (rows now : List (List (QueueEntry K))) (low end at : ℕ) (x : QueueEntry K) → rows ≡ set now at (get_or now at [] ++ x ∷ []) → at < length now → ArePlaced value low end rows → ArePlaced value low end now
  placed_less rows now low end at x is within placed i =
      let same_rows : get_or rows i [] ≡ get_or (set now at (get_or now at [] ++ x ∷ [])) i [] = ap (λ (rs : List (List (QueueEntry K))). get_or rs i []) is in
      elim (cases_eq i at) [
        | inl same ↦
            let row : get_or rows i [] ≡ get_or now i [] ++ x ∷ [] =
            same_rows
            ∙ ap (λ n. get_or (set now at (get_or now at [] ++ x ∷ [])) n []) same
            ∙ get_or-set_same now at (get_or now at [] ++ x ∷ []) [] within
            ∙ ap (λ n. get_or now n [] ++ x ∷ []) (sym same) in
            (All-pop (IsPlaced value low end i) (get_or rows i []) (get_or now i []) (Some x) row (placed i)).0
        | inr other ↦ subst (λ (es : List (QueueEntry K)). All (IsPlaced value low end i) es) (same_rows ∙ get_or-set_other now at i (get_or now at [] ++ x ∷ []) [] other) (placed i)
      ]

  less_moved : (rows now : List (List (QueueEntry K))) (at : ℕ) (x : QueueEntry K) → rows ≡ set now at (get_or now at [] ++ x ∷ []) → at < length now → IsPermutation (all_of rows) (x ∷ all_of now)
  less_moved rows now at x is within = rw is (IsPermutation-sym _ _ (all_more now at x within))

  pub bucketed_less : (rows now : List (List (QueueEntry K))) (low end count at : ℕ) (x : QueueEntry K) → rows ≡ set now at (get_or now at [] ++ x ∷ []) → at < length rows → length now ≡ length rows
      → IsBucketed value rows low end count → (1 ≤ count) × IsBucketed value now low end (count - 1)
  bucketed_less rows now low end count at x is within long h =
      let in_now : at < length now = omega (arith, within, long) in
      let one : length (x ∷ all_of now) ≡ length (all_of rows) = length_permutation _ _ (less_moved rows now at x is in_now) in (
        omega (arith, one, h.counted),
        record {
          placed = placed_less rows now low end at x is in_now h.placed;
          within = omega (arith, h.within, long);
          counted = omega (arith, one, h.counted);
        },
      )

  pub entries_less : (rows now : List (List (QueueEntry K))) (at : ℕ) (x : QueueEntry K) (es : List Waiting) → rows ≡ set now at (get_or now at [] ++ x ∷ []) → at < length rows → length now ≡ length rows → entries_of value rows ≡ es
      → IsPermutation es (entry_of value x ∷ entries_of value now)
  entries_less rows now at x es is within long view =
      let moved = less_moved rows now at x is (omega (arith, within, long)) in
      subst (λ (ws : List Waiting). IsPermutation ws (entry_of value x ∷ entries_of value now)) view (IsPermutation-map (entry_of value) (all_of rows) (x ∷ all_of now) moved)

  -- ---- the first row that may have entries
  pub bucketed_from : (rows : List (List (QueueEntry K))) (low low' end count : ℕ) → AreEmpty rows low low' → IsBucketed value rows low end count → IsBucketed value rows low' end count
  bucketed_from rows low low' end count empty h = record {
    placed = λ i k d within.
        let one : IsPlaced value low end i (get_or (get_or rows i []) k d) = h.placed i k d within in
        record {
          here = one.here;
          from = elim (cases_lt i low') [
            | inl less ↦ absurd (let none = ap length (empty i one.from less) in omega (arith, none, within))
            | inr more ↦ more
          ];
          until = one.until;
        };
    within = h.within;
    counted = h.counted;
  }

  -- if no entry is in the bucket of a bound or before, all keys are above the bound
  pub all_past : (rows : List (List (QueueEntry K))) (low end stop count : ℕ) (bound : K) (es : List Waiting) → stop ≡ min end (bucket_of (value bound) + 1) → stop ≤ low
      → IsBucketed value rows low end count → entries_of value rows ≡ es → IsPast es (entries_of value rows) (value bound)
  all_past rows low end stop count bound es is past h view =
      let each : All (λ (e : QueueEntry K). value bound < value e.key) (all_of rows) =
      each_of (λ (e : QueueEntry K). value bound < value e.key) rows (λ i k d within.
      let one : IsPlaced value low end i (get_or (get_or rows i []) k d) = h.placed i k d within in
      key_below (value bound) _ (omega (arith, one.here, one.from, one.until, is, past))) in
      record {
        same = view;
        past = subst (λ (ws : List Waiting). All (λ (w : Waiting). value bound < w.key) ws) view (All-map (λ (w : Waiting). value bound < w.key) (entry_of value) (all_of rows) each);
      }

  -- the last entry of the first row that has entries
  pub is_lowest : (rows now : List (List (QueueEntry K))) (low end stop count : ℕ) (bound : K) (x : QueueEntry K) (es : List Waiting) → stop ≡ min end (bucket_of (value bound) + 1) → low < stop
      → rows ≡ set now low (get_or now low [] ++ x ∷ []) → length now ≡ length rows → IsBucketed value rows low end count → entries_of value rows ≡ es
      → IsLowest es (value x.key) (value bound)
  is_lowest rows now low end stop count bound x es stops below is long h view =
      let row : get_or rows low [] ≡ get_or now low [] ++ x ∷ [] =
      ap (λ (rs : List (List (QueueEntry K))). get_or rs low []) is ∙ get_or-set_same now low (get_or now low [] ++ x ∷ []) [] (omega (arith, below, stops, long, h.within)) in
      let one : IsPlaced value low end low x = (All-pop (IsPlaced value low end low) (get_or rows low []) (get_or now low []) (Some x) row (h.placed low)).1 in
      let each : All (λ (e : QueueEntry K). bucket_of (value x.key) ≤ bucket_of (value e.key)) (all_of rows) =
      each_of (λ (e : QueueEntry K). bucket_of (value x.key) ≤ bucket_of (value e.key)) rows (λ i. All-weaker (IsPlaced value low end i) (λ (e : QueueEntry K). bucket_of (value x.key) ≤ bucket_of (value e.key))
      (λ e other. omega (arith, one.here, other.here, other.from)) (get_or rows i []) (h.placed i)) in
      record {
        near = omega (arith, one.here, below, stops);
        least = subst (λ (ws : List Waiting). All (λ (w : Waiting). bucket_of (value x.key) ≤ bucket_of w.key) ws) view (All-map (λ (w : Waiting). bucket_of (value x.key) ≤ bucket_of w.key) (entry_of value) (all_of rows) each);
      }

  -- ---- no entries
  pub bucketed_none : (rows : List (List (QueueEntry K))) (low : ℕ) → ((i : ℕ) → get_or rows i [] ≡ []) → IsBucketed value rows low 0 0
  bucketed_none rows low none = record {
    placed = λ i. subst (λ (es : List (QueueEntry K)). All (IsPlaced value low 0 i) es) (sym (none i)) (All-nil (IsPlaced value low 0 i));
    within = omega arith;
    counted = ap length (none_in rows none);
  }

  pub entries_none : (rows : List (List (QueueEntry K))) → ((i : ℕ) → get_or rows i [] ≡ []) → entries_of value rows ≡ []
  entries_none rows none = ap (map (entry_of value)) (none_in rows none)

  -- rows outside the bounds are empty
  empty_before : (low end i : ℕ) (row : List (QueueEntry K)) → All (IsPlaced value low end i) row → i < low → row ≡ []
  empty_before low end i [] h before = refl
  empty_before low end i (x ∷ row) h before = absurd (let one = All-head (IsPlaced value low end i) x row h in omega (arith, one.from, before))

  empty_after : (low end i : ℕ) (row : List (QueueEntry K)) → All (IsPlaced value low end i) row → end ≤ i → row ≡ []
  empty_after low end i [] h after = refl
  empty_after low end i (x ∷ row) h after = absurd (let one = All-head (IsPlaced value low end i) x row h in omega (arith, one.until, after))

  -- if the rows between the bounds are emptied, all rows are empty
  pub all_emptied : (rows now : List (List (QueueEntry K))) (low end : ℕ) → ArePlaced value low end rows → AreEmpty now low end → ((i : ℕ) → get_or rows i [] ≡ [] → get_or now i [] ≡ []) → (i : ℕ) → get_or now i [] ≡ []
  all_emptied rows now low end placed empty kept i = elim (cases_lt i low) [
    | inl before ↦ kept i (empty_before low end i (get_or rows i []) (placed i) before)
    | inr from ↦ elim (cases_lt i end) [
      | inl until ↦ empty i from until
      | inr after ↦ kept i (empty_after low end i (get_or rows i []) (placed i) after)
    ]
  ]
