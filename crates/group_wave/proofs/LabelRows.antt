-- Rows of labels, of which some are noted.
use Rattle.std.proofs.Common.{◌≡◌, ◌⊎◌, ℕ, ◌<◌, ◌≤◌, inl, inr, get_or, get_or-set_other, List, [], ◌∷◌, All, map, replicate, length, refl, sym, ap, ◌∙◌, subst, arith, slice_set, true, false, zero, suc}
use Rattle.std.specs.Prelude.{nat_le}
use Rattle.std.specs.List.{AllByRecursion, zip}
use Rattle.std.proofs.lemmas.Slice.Zip.{get_or-zip, length-zip}
use Rattle.std.proofs.lemmas.Bool.{cases_eq, cases_lt}
use Rattle.std.proofs.lemmas.Bool.Decides.{nat_tests}
use Rattle.std.proofs.lemmas.List.{get_or_default, length-set, map-set, get_or-map, length-map}
use Rattle.std.proofs.lemmas.List.Elements.{recursion_from_All, All-push, All-set, Contains-push, Contains-append_left}
use Rattle.group_wave.specs.declared.labels.LabelRow.{LabelRow}
use Rattle.group_wave.specs.declared.labels.WayRow.{WayRow}
use Rattle.group_wave.specs.kept.WaveState.{FAR, NodeLabel}
use Rattle.group_wave.specs.kept.Wave.{unreached}
use Rattle.group_wave.specs.kept.Labels.{AreNoted, IsBlank, Notes, label_by, label_of}

module _ {K : Type 0} (value : K → ℕ) (greatest : ℕ) where
  abbrev pub Fits : List (WayRow K) → Type 0
  Fits rows = All (λ (row : WayRow K). value row.cost ≤ greatest) rows

  abbrev pub AreBlank : List (WayRow K) → Type 0
  AreBlank rows = All (λ (row : WayRow K). IsBlank value greatest row) rows

  pub reached_is : (row : LabelRow K) → value row.cost < greatest → label_of value greatest row ≡ record { cost = value row.cost; parent = row.parent; price = value row.price }
  reached_is row below = let less : nat_le greatest (value row.cost) ≡ false = grind (arith, nat_tests) in rw less refl

  -- ---- rows, and prices beside them
  pub length_priced : (rows : List (WayRow K)) (prices : List K) → length prices ≡ length rows → length (map (label_by value greatest) (zip rows prices)) ≡ length rows
  length_priced rows prices size = let a = length-map (zip rows prices) (label_by value greatest) in let b = length-zip rows prices in omega (arith, a, b, size)

  -- there is a row and a price for each label
  pub count_rows : (rows : List (WayRow K)) (prices : List K) (labels : List NodeLabel) → length prices ≡ length rows → map (label_by value greatest) (zip rows prices) ≡ labels → length rows ≡ length labels
  count_rows rows prices labels size e = sym (length_priced rows prices size) ∙ ap length e

  pub count_prices : (rows : List (WayRow K)) (prices : List K) (labels : List NodeLabel) → length prices ≡ length rows → map (label_by value greatest) (zip rows prices) ≡ labels → length prices ≡ length labels
  count_prices rows prices labels size e = size ∙ count_rows rows prices labels size e

  pub fits_at : (rows : List (WayRow K)) (node : ℕ) (row : WayRow K) → row ≡ get_or rows node row → node < length rows → Fits rows → value row.cost ≤ greatest
  fits_at rows node row there within fits = subst (λ (r : WayRow K). value r.cost ≤ greatest) (sym there) (fits node row within)

  -- a node's label, as it is read
  pub priced_at : (rows : List (WayRow K)) (prices : List K) (labels : List NodeLabel) (node : ℕ) (row : WayRow K) (price : K) → row ≡ get_or rows node row → price ≡ get_or prices node price → node < length labels
      → length prices ≡ length rows → map (label_by value greatest) (zip rows prices) ≡ labels → label_by value greatest (row, price) ≡ get_or labels node unreached
  priced_at rows prices labels node row price there beside within size e =
      let count = count_rows rows prices labels size e in
      let pairs = length-zip rows prices in
      let pair : get_or (zip rows prices) node (row, price) ≡ (row, price) =
      get_or-zip rows prices node (row, price) (omega (arith, count, within)) (omega (arith, count, within, size)) ∙ ap (λ (r : WayRow K). (r, get_or prices node price)) (sym there) ∙ ap (λ (p : K). (row, p)) (sym beside) in
      sym (ap (λ ls. get_or ls node unreached) (sym e) ∙ get_or-map (label_by value greatest) (zip rows prices) node (row, price) unreached (omega (arith, pairs, count, within, size)) ∙ ap (label_by value greatest) pair)

  blank_label : (row : WayRow K) (price : K) → IsBlank value greatest row → label_by value greatest (row, price) ≡ unreached
  blank_label row price blank = let more = blank.0 in let all : nat_le greatest (value row.cost) ≡ true = grind (arith, nat_tests, more) in rw (all, blank.1) refl

  all_blank : (rows : List (WayRow K)) (prices : List K) → AllByRecursion (λ (row : WayRow K). IsBlank value greatest row) rows → length prices ≡ length rows → map (label_by value greatest) (zip rows prices) ≡ replicate (length rows) unreached
  all_blank [] prices none size = refl
  all_blank (row ∷ rows) [] none size = absurd (omega (arith, size))
  all_blank (row ∷ rows) (price ∷ prices) (first, rest) size = rw (blank_label row price first, all_blank rows prices rest (omega (arith, size))) refl

  pub blank_rows : (rows : List (WayRow K)) (prices : List K) (count : ℕ) → AreBlank rows → length rows ≡ count → length prices ≡ count → map (label_by value greatest) (zip rows prices) ≡ replicate count unreached
  blank_rows rows prices count blank size priced = all_blank rows prices (recursion_from_All _ _ blank) (priced ∙ sym size) ∙ ap (λ n. replicate n unreached) size

  -- rows that are all blank need no node to be noted
  pub none_noted : (rows : List (WayRow K)) (nodes : List ℕ) → AreBlank rows → AreNoted value greatest rows nodes
  none_noted rows nodes blank k d within = inl (blank k d within)

  -- ---- a label is put
  zip_set : (rows : List (WayRow K)) (prices : List K) (node : ℕ) (row : WayRow K) (price : K) → zip (slice_set rows node row) (slice_set prices node price) ≡ slice_set (zip rows prices) node (row, price)
  zip_set [] ps node row price = refl
  zip_set (r ∷ rs) [] zero row price = refl
  zip_set (r ∷ rs) [] (suc node) row price = refl
  zip_set (r ∷ rs) (p ∷ ps) zero row price = refl
  zip_set (r ∷ rs) (p ∷ ps) (suc node) row price = ap (λ (all : List (WayRow K × K)). (r, p) ∷ all) (zip_set rs ps node row price)

  -- the price stays
  zip_set_row : (rows : List (WayRow K)) (prices : List K) (node : ℕ) (row : WayRow K) (price : K) → price ≡ get_or prices node price → zip (slice_set rows node row) prices ≡ slice_set (zip rows prices) node (row, price)
  zip_set_row [] ps node row price there = refl
  zip_set_row (r ∷ rs) [] zero row price there = refl
  zip_set_row (r ∷ rs) [] (suc node) row price there = refl
  zip_set_row (r ∷ rs) (p ∷ ps) zero row price there = ap (λ (x : K). (row, x) ∷ zip rs ps) (sym there)
  zip_set_row (r ∷ rs) (p ∷ ps) (suc node) row price there = ap (λ (all : List (WayRow K × K)). (r, p) ∷ all) (zip_set_row rs ps node row price there)

  pub label_put : (rows : List (WayRow K)) (prices : List K) (labels : List NodeLabel) (node : ℕ) (row : WayRow K) (price : K) → value row.cost < greatest → map (label_by value greatest) (zip rows prices) ≡ labels
      → map (label_by value greatest) (zip (slice_set rows node row) (slice_set prices node price)) ≡ slice_set labels node (record { cost = value row.cost; parent = row.parent; price = value price })
  label_put rows prices labels node row price below e =
      ap (map (label_by value greatest)) (zip_set rows prices node row price) ∙ map-set (label_by value greatest) (zip rows prices) node (row, price)
      ∙ rw (e, reached_is (record { cost = row.cost; parent = row.parent; price = price }) below) refl

  -- ---- another parent is put
  module _ (rows : List (WayRow K)) (prices : List K) (labels : List NodeLabel) (node parent : ℕ) (row : WayRow K) (there : row ≡ get_or rows node row) (within : node < length labels) (size : length prices ≡ length rows)
      (e : map (label_by value greatest) (zip rows prices) ≡ labels) (near : (get_or labels node unreached).cost < FAR) where
    -- the price that stays: any default is as good, since there is one
    price : K
    price = get_or prices node row.cost

    beside : price ≡ get_or prices node price
    unfolding price
    beside = let count = count_prices rows prices labels size e in get_or_default prices node row.cost (get_or prices node row.cost) (omega (arith, count, within))

    read : label_by value greatest (row, price) ≡ get_or labels node unreached
    read = priced_at rows prices labels node row price there beside within size e

    -- the row of a node that is reached
    pub row_reached : value row.cost < greatest
    row_reached = elim (cases_lt (value row.cost) greatest) [
      | inl below ↦ below
      | inr most ↦
          let all : nat_le greatest (value row.cost) ≡ true = grind (arith, nat_tests) in
          let far : (label_by value greatest (row, price)).cost ≡ FAR = rw all refl in
          let cost : (label_by value greatest (row, price)).cost ≡ (get_or labels node unreached).cost = ap (λ l. l.cost) read in
          absurd (omega (arith, near, cost, far))
    ]

    -- it keeps its cost and its price
    pub parent_put : map (label_by value greatest) (zip (slice_set rows node (record { cost = row.cost; parent = parent })) prices)
        ≡ slice_set labels node (record { cost = (get_or labels node unreached).cost; parent = parent; price = (get_or labels node unreached).price })
    parent_put =
        let is = sym read ∙ reached_is (record { cost = row.cost; parent = row.parent; price = price }) row_reached in
        let cost : (get_or labels node unreached).cost ≡ value row.cost = ap (λ l. l.cost) is in
        let paid : (get_or labels node unreached).price ≡ value price = ap (λ l. l.price) is in
        ap (map (label_by value greatest)) (zip_set_row rows prices node (record { cost = row.cost; parent = parent }) price beside) ∙ map-set (label_by value greatest) (zip rows prices) node (record { cost = row.cost; parent = parent }, price)
        ∙ rw (e, cost, paid, reached_is (record { cost = row.cost; parent = parent; price = price }) row_reached) refl

  pub noted_put : (rows : List (WayRow K)) (old new : List ℕ) (node : ℕ) (row put : WayRow K) → row ≡ get_or rows node row → AreNoted value greatest rows old → Notes value greatest row node old new
      → AreNoted value greatest (slice_set rows node put) new
  noted_put rows old new node row put there noted notes k d within =
      let size : length (slice_set rows node put) ≡ length rows = length-set rows node put in
      let inside : k < length rows = omega (arith, size, within) in
      elim (cases_eq k node) [
        | inl same ↦ elim notes [
          | inl reached ↦
              elim (noted k row inside) [
                | inl blank ↦
                    let here = ap (λ (r : WayRow K). value r.cost) (there ∙ ap (λ i. get_or rows i row) (sym same)) in
                    absurd (omega (arith, here, blank.0, reached.0))
                | inr has ↦ inr (rw reached.1 has)
              ]
          | inr more ↦ inr (rw (more, same) (Contains-push old node))
        ]
        | inr other ↦ elim (noted k d inside) [
          | inl blank ↦ inl (subst (IsBlank value greatest) (sym (get_or-set_other rows node k put d other)) blank)
          | inr has ↦ elim notes [
            | inl reached ↦ inr (rw reached.1 has)
            | inr more ↦ inr (rw more (Contains-append_left old (node ∷ []) k has))
          ]
        ]
      ]

  pub fits_put : (rows : List (WayRow K)) (node : ℕ) (put : WayRow K) → value put.cost < greatest → Fits rows → Fits (slice_set rows node put)
  fits_put rows node put below fits = All-set (λ (row : WayRow K). value row.cost ≤ greatest) rows node put (omega (arith, below)) fits

  pub within_put : (rows : List (WayRow K)) (old new : List ℕ) (node : ℕ) (row put : WayRow K) → node < length rows → All (λ n. n < length rows) old → Notes value greatest row node old new
      → All (λ n. n < length (slice_set rows node put)) new
  within_put rows old new node row put there all notes = rw (length-set rows node put) (elim notes [
    | inl reached ↦ rw reached.1 all
    | inr more ↦ rw more (All-push (λ n. n < length rows) old node all there)
  ])

  -- ---- the labels of noted nodes are taken off, one by one
  -- a node is noted from a place on
  abbrev pub IsNotedFrom : (nodes : List ℕ) → (i node : ℕ) → Type 0
  IsNotedFrom nodes i node = (j : ℕ) × (i ≤ j) × (j < length nodes) × (get_or nodes j node ≡ node)

  abbrev pub AreNotedFrom : (rows : List (WayRow K)) → (nodes : List ℕ) → (i : ℕ) → Type 0
  AreNotedFrom rows nodes i = (k : ℕ) (d : WayRow K) → k < length rows → IsBlank value greatest (get_or rows k d) ⊎ IsNotedFrom nodes i k

  pub all_off : (rows : List (WayRow K)) (nodes : List ℕ) (i : ℕ) → length nodes ≤ i → AreNotedFrom rows nodes i → AreBlank rows
  all_off rows nodes i ends noted k d within = elim (noted k d within) [
    | inl blank ↦ blank
    | inr has ↦ absurd (omega (arith, has.1, has.2, ends))
  ]
