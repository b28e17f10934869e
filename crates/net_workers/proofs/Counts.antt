-- How many turns are at a net, and what follows where all together are as many as there are nets.
use Rattle.std.proofs.Common.{◌≡◌, inl, inr, ℕ, zero, suc, ◌+◌, ◌<◌, ◌≤◌, ◌==◌, nat_lt, ◌∷◌, [], List, length, get_or, refl, sym, ap, ◌∙◌, arith, add-one, Option, None, Some, is_some}
use Rattle.std.proofs.lemmas.Bool.{cases_lt, eq-eqb}
use Rattle.std.proofs.lemmas.Bool.Decides.{nat_tests}
use Rattle.std.proofs.lemmas.List.Sums.{sum_by-cons, get_or-le-sum_by}
use Rattle.std.specs.Prelude.{All, count_by}
use Rattle.congestion_book.specs.declared.turn.Turn.{Turn}
use Rattle.congestion_book.specs.Turns.{AreInOrder, NameEachOnce, holder_in, one_if}
use Rattle.congestion_book.specs.Contents.{Content, IsSound, net_count, table_in}

one_step : (x n : ℕ) → one_if (nat_lt x (n + 1)) ≡ one_if (nat_lt x n) + one_if (x == n)
one_step x n = grind (arith, nat_tests)

-- ---- the turns whose worker, or whose net, is this number, or below it
module _ (number : Turn → ℕ) where
  abbrev pub at : ℕ → List Turn → ℕ
  at n ts = count_by (λ t. number t == n) ts

  abbrev pub below : ℕ → List Turn → ℕ
  below n ts = count_by (λ t. nat_lt (number t) n) ts

  below_more : (ts : List Turn) (n : ℕ) → below (n + 1) ts ≡ below n ts + at n ts
  below_more [] n = refl
  below_more (t ∷ ts) n =
      omega (
        arith,
        sum_by-cons (λ (u : Turn). one_if (nat_lt (number u) (n + 1))) t ts,
        sum_by-cons (λ (u : Turn). one_if (nat_lt (number u) n)) t ts,
        sum_by-cons (λ (u : Turn). one_if (number u == n)) t ts,
        one_step (number t) n,
        below_more ts n,
      )

  pub below_next : (ts : List Turn) (n : ℕ) → below (suc n) ts ≡ below n ts + at n ts
  below_next ts n = ap (λ k. below k ts) (sym (add-one n)) ∙ below_more ts n

  pub below_none : (ts : List Turn) → below 0 ts ≡ 0
  below_none [] = refl
  below_none (t ∷ ts) =
      let none : one_if (nat_lt (number t) 0) ≡ 0 = grind (arith, nat_tests) in
      omega (arith, none, sum_by-cons (λ (u : Turn). one_if (nat_lt (number u) 0)) t ts, below_none ts)

  pub below_all : (ts : List Turn) (n : ℕ) → All (λ t. number t < n) ts → below n ts ≡ length ts
  below_all [] n known = refl
  below_all (t ∷ ts) n known =
      let here : number t < n = known 0 t (omega arith) in
      let one : one_if (nat_lt (number t) n) ≡ 1 = grind (arith, nat_tests) in
      omega (arith, one, sum_by-cons (λ (u : Turn). one_if (nat_lt (number u) n)) t ts, below_all ts n (λ k d low. known (suc k) d (omega arith)))

  -- ---- none of the numbers below a limit has more turns than this
  module _ (ts : List Turn) (most : ℕ → ℕ) (limit : ℕ) (within : (n : ℕ) → n < limit → at n ts ≤ most n) where
    abbrev pub sum_below : ℕ → ℕ
    sum_below zero = 0
    sum_below (suc n) = sum_below n + most n

    pub below_within : (n : ℕ) → n ≤ limit → below n ts ≤ sum_below n
    below_within zero low = omega (arith, below_none ts)
    below_within (suc n) low = omega (arith, below_within n (omega arith), within n (omega arith), below_next ts n)

    -- where all together have as many as they may, each has
    pub each_full : (n : ℕ) → n ≤ limit → below n ts ≡ sum_below n → (k : ℕ) → k < n → at k ts ≡ most k
    each_full zero few same k low = absurd (omega arith)
    each_full (suc n) few same k low =
        let before = below_within n (omega arith) in
        let here = within n (omega arith) in
        let next = below_next ts n in
        elim (cases_lt k n) [
          | inl less ↦ each_full n (omega arith) (omega arith) k less
          | inr not_less ↦ let is : k ≡ n = omega arith in rw is (omega arith)
        ]

-- ---- turns that name each net once are as many as there are nets
module _ (ts : List Turn) (nets : ℕ) (once : NameEachOnce nets ts) where
  named : All (λ t. t.net < nets) ts
  named k d low =
      let net = (get_or ts k d).net in
      let one = get_or-le-sum_by (λ (t : Turn). one_if (t.net == net)) ts k d low in
      let here : one_if (net == net) ≡ 1 = ap one_if (eq-eqb net net refl) in
      let few = once net in
      grind (arith, nat_tests, one, here, few)

  below_is : (n : ℕ) → n ≤ nets → below (λ t. t.net) n ts ≡ n
  below_is zero low = below_none (λ t. t.net) ts
  below_is (suc n) low =
      let here : one_if (nat_lt n nets) ≡ 1 = grind (arith, nat_tests) in
      omega (arith, here, once n, below_next (λ t. t.net) ts n, below_is n (omega arith))

  pub once_all : length ts ≡ nets
  once_all = omega (arith, below_all (λ t. t.net) ts nets named, below_is nets (omega arith))

-- ---- a book whose open iteration has as many turns as there are nets
not_some : (o : Option ℕ) → one_if (is_some o) ≡ 0 → o ≡ None
not_some None none = refl
not_some (Some w) none = cc

module _ (c : Content) (sound : IsSound c) (full : length c.turns ≡ net_count c) where
  order : AreInOrder (table_in c)
  order = sound.order

  abbrev most : ℕ → ℕ
  most i = one_if (nat_lt i c.drawn)

  within : (i : ℕ) → at (λ t. t.net) i c.turns ≤ most i
  within i = omega (arith, order.once i)

  below_drawn : (i : ℕ) → i < c.drawn → at (λ t. t.net) i c.turns ≤ most i
  below_drawn i low = within i

  -- each turn is at a net that was drawn
  drawn : All (λ t. t.net < c.drawn) c.turns
  drawn k d low =
      let net = (get_or c.turns k d).net in
      let one = get_or-le-sum_by (λ (t : Turn). one_if (t.net == net)) c.turns k d low in
      let here : one_if (net == net) ≡ 1 = ap one_if (eq-eqb net net refl) in
      let few = within net in
      grind (arith, nat_tests, one, here, few)

  sum_is : (n : ℕ) → n ≤ c.drawn → sum_below (λ t. t.net) c.turns most c.drawn below_drawn n ≡ n
  sum_is zero low = refl
  sum_is (suc n) low =
      let here : most n ≡ 1 = grind (arith, nat_tests) in
      omega (arith, here, sum_is n (omega arith))

  all_drawn : c.drawn ≡ net_count c
  all_drawn =
      let all = below_all (λ t. t.net) c.turns c.drawn drawn in
      let few = below_within (λ t. t.net) c.turns most c.drawn below_drawn c.drawn (omega arith) in
      omega (arith, all, few, sum_is c.drawn (omega arith), full, order.drawn, sound.held)

  turned : (i : ℕ) → i < c.drawn → at (λ t. t.net) i c.turns ≡ most i
  turned i low =
      let all = below_all (λ t. t.net) c.turns c.drawn drawn in
      each_full (λ t. t.net) c.turns most c.drawn below_drawn c.drawn (omega arith) (omega (arith, all, sum_is c.drawn (omega arith), full, all_drawn)) i low

  pub all_once : NameEachOnce (net_count c) c.turns
  all_once i = elim (cases_lt i c.drawn) [
    | inl low ↦ let here = turned i low in let all = all_drawn in grind (arith, nat_tests)
    | inr past ↦ let few = within i in let all = all_drawn in grind (arith, nat_tests)
  ]

  pub all_free : (i : ℕ) → holder_in c.holders i ≡ None
  all_free i =
      let here = all_once i in
      let all = all_drawn in
      let once = order.once i in
      not_some (holder_in c.holders i) (grind (arith, nat_tests))
