-- Histories that grow row by row.
use Rattle.std.proofs.Common.{◌≡◌, inl, inr, ℕ, ◌+◌, ◌*◌, ◌^◌, ◌<◌, ◌≤◌, ◌==◌, List, [], ◌∷◌, ◌++◌, length, get_or, replicate, All, refl, sym, ap, ◌∙◌, arith, mul-add, mul-zero}
use Rattle.std.specs.Prelude.{take, sum_by, if◌then◌else◌}
use Rattle.std.proofs.lemmas.Bool.{cases_lt, eq-eqb}
use Rattle.std.proofs.lemmas.List.{get_or_past}
use Rattle.std.proofs.lemmas.List.Sums.{sum_by-append, sum_by-cons, sum_by-le, sum_by_more, sum_by_more_le}
use Rattle.std.proofs.lemmas.Nat.{mul-le}
use Rattle.congestion_book.specs.Histories.{Amount, amount_in, history_of, histories_of}
use Rattle.congestion_book.specs.kept.HistoryTables.{AreHistories, GrowsByRow}
use Rattle.route_report.proofs.Counting.{listed_below, zeros}

-- what an entry adds to the amount of node a
abbrev part : ℕ → Amount → ℕ
part a e = if e.0 == a then e.1 else 0

amount_next : (row : List Amount) (k a : ℕ) → k < length row → amount_in (take (k + 1) row) a ≡ amount_in (take k row) a + part a (get_or row k (0, 0))
amount_next row k a l = sum_by_more (part a) row k (0, 0) l

module _ (acc : ℕ) (row : List Amount) (old now : List ℕ) (k : ℕ) (low : k < length row) (so_far : GrowsByRow acc (take k row) old now) where
  abbrev next : Amount
  next = get_or row k (0, 0)

  pub grows_next : (new : List ℕ) → GrowsByRow acc (next ∷ []) now new → GrowsByRow acc (take (k + 1) row) old new
  grows_next new step = record {
    size = step.size ∙ so_far.size;
    each = λ a.
        let one : amount_in (next ∷ []) a ≡ part a next + 0 = sum_by-cons (part a) next [] in
        let all = amount_next row k a low in
        let sum : acc * amount_in (take (k + 1) row) a ≡ acc * amount_in (take k row) a + acc * amount_in (next ∷ []) a =
        ap (λ n. acc * n) (let e : amount_in (take (k + 1) row) a ≡ amount_in (take k row) a + amount_in (next ∷ []) a = omega (arith, one, all) in e)
        ∙ mul-add acc (amount_in (take k row) a) (amount_in (next ∷ []) a) in
        omega (arith, so_far.each a, step.each a, sum);
  }

  pub room_for_next : ((a : ℕ) → get_or old a 0 + acc * amount_in row a ≤ 2 ^ 42) → get_or now next.0 0 + acc * next.1 ≤ 2 ^ 42
  room_for_next bounded =
      let a = next.0 in
      let here : part a next ≡ next.1 = ap (λ b. if b then next.1 else 0) (eq-eqb a a refl) in
      let within = sum_by_more_le (part a) row k (0, 0) low in
      let sum : acc * (amount_in (take k row) a + next.1) ≡ acc * amount_in (take k row) a + acc * next.1 = mul-add acc (amount_in (take k row) a) next.1 in
      let less : acc * (amount_in (take k row) a + next.1) ≤ acc * amount_in row a =
      mul-le acc (amount_in (take k row) a + next.1) acc (amount_in row a) (omega arith) (omega (arith, here, within)) in
      omega (arith, so_far.each a, sum, less, bounded a)

module _ (acc : ℕ) (rows : List (List Amount)) (row : List Amount) (histories : List ℕ) (exact : AreHistories acc rows histories) where
  abbrev total : ℕ → ℕ
  total a = sum_by (λ (r : List Amount). amount_in r a) rows

  grown : (a : ℕ) → history_of acc (rows ++ row ∷ []) a ≡ history_of acc rows a + acc * amount_in row a
  unfolding history_of
  grown a =
      let more = sum_by-append (λ (r : List Amount). amount_in r a) rows (row ∷ []) in
      let last = sum_by-cons (λ (r : List Amount). amount_in r a) row [] in
      let sum : sum_by (λ (r : List Amount). amount_in r a) (rows ++ row ∷ []) ≡ total a + amount_in row a = omega (arith, more, last) in
      ap (λ n. acc * n) sum ∙ mul-add acc (total a) (amount_in row a)

  pub row_added : (new : List ℕ) → GrowsByRow acc row histories new → AreHistories acc (rows ++ row ∷ []) new
  row_added new grows = λ a l. omega (arith, grows.each a, exact a (omega (arith, l, grows.size)), grown a)

  module _ (few_acc : acc ≤ 65535) (few : length rows < 500) (each : All (λ r. (a : ℕ) → amount_in r a ≤ 65535) rows) (last : (a : ℕ) → amount_in row a ≤ 65535) where
    bound : (a : ℕ) → history_of acc rows a + acc * amount_in row a ≤ 2 ^ 42
    unfolding history_of
    bound a =
        let sum = sum_by-le (λ (r : List Amount). amount_in r a) 65535 rows (λ k d l. each k d l a) in
        let terms : total a + amount_in row a ≤ 500 * 65535 = omega (arith, sum, few, last a) in
        let all = mul-le acc (total a + amount_in row a) 65535 (500 * 65535) few_acc terms in
        let split = mul-add acc (total a) (amount_in row a) in
        omega (arith, all, split)

    pub room_for_row : (a : ℕ) → get_or histories a 0 + acc * amount_in row a ≤ 2 ^ 42
    room_for_row a = elim (cases_lt a (length histories)) [
      | inl low ↦ omega (arith, exact a low, bound a)
      | inr past ↦ omega (arith, get_or_past histories a 0 past, bound a)
    ]

-- no history grows beyond what 500 rows give it
pub small_history : (acc : ℕ) (rows : List (List Amount)) → acc ≤ 65535 → length rows ≤ 500 → All (λ r. (a : ℕ) → amount_in r a ≤ 65535) rows → (a : ℕ) →
    history_of acc rows a < 2 ^ 42
unfolding history_of
small_history acc rows few_acc few each a =
    let total = sum_by (λ (r : List Amount). amount_in r a) rows in
    let sum = sum_by-le (λ (r : List Amount). amount_in r a) 65535 rows (λ k d l. each k d l a) in
    let terms : total ≤ 500 * 65535 = omega (arith, sum, few) in
    let all = mul-le acc total 65535 (500 * 65535) few_acc terms in
    omega (arith, all)

-- histories that are exact are those of the rows
pub histories_are : (nodes acc : ℕ) (rows : List (List Amount)) (histories : List ℕ) → length histories ≡ nodes → AreHistories acc rows histories →
    histories ≡ histories_of nodes acc rows
unfolding histories_of
histories_are nodes acc rows histories size exact = listed_below (history_of acc rows) nodes histories size (λ a l. exact a (omega (arith, l, size)))

-- where there are no rows there is no history
pub none_yet : (acc nodes : ℕ) (histories : List ℕ) → histories ≡ replicate nodes 0 → AreHistories acc [] histories
unfolding history_of
none_yet acc nodes histories e = λ a l. ap (λ hs. get_or hs a 0) e ∙ (zeros nodes a ∙ sym (mul-zero acc))
