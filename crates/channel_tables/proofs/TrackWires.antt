-- The wires of one track of a channel, in one dimension: which of them touch a corner, and which
-- are next to a wire.
use Rattle.std.proofs.Common.{◌≡◌, ℕ, ◌+◌, ◌-◌, ◌<◌, ◌≤◌, inl, inr, zero, suc, Bool, true, false, List, [], ◌∷◌, ◌++◌, length, refl, sym, ap, ◌∙◌, subst, arith, zero-add}
use Rattle.std.specs.Prelude.{◌==◌, ◌&&◌, not, nat_le}
use Rattle.std.specs.List.{range_with_len, list_any, flat_map, position_or_len}
use Rattle.std.proofs.lemmas.Bool.{and_parts, and_from, false_from_ne_true, le-leb, eq-eqb, ne_eqb, or_from, cases_eq, cases_lt, cases_order, false≢true, leb-true}
use Rattle.std.proofs.lemmas.List.Sums.{fails_before_first, passes_at_first, prefix_len-le-length}
use Rattle.std.proofs.lemmas.List.FromFn.{length-range_with_len, get_or-range_with_len}
use Rattle.channel_tables.specs.Fabric.{Fabric, is_between}
use Rattle.channel_tables.specs.Wires.{begins, steps_of, last_of}
use Rattle.channel_tables.specs.Channels.{first_of}
use Rattle.channel_tables.proofs.Rising.{Rises, length-rises}

-- ---- a list over a range that is empty off a few places

-- q is one of the numbers
abbrev pub is_among : List ℕ → ℕ → Bool
is_among ps q = list_any (λ p. q == p) ps

not_among : (lo hi q : ℕ) (ps : List ℕ) → Rises lo hi ps → q < lo → is_among ps q ≡ false
not_among lo hi q [] r l = refl
not_among lo hi q (p ∷ ps) r l =
    or_from (q == p) (is_among ps q) (ne_eqb q p (λ e. let h : lo ≤ p = r.0 in absurd (omega arith)))
    (not_among (p + 1) hi q ps r.1 (let h : lo ≤ p = r.0 in omega arith))

module _ {X : Type 0} (g : ℕ → List X) where
  pub joined_among : (a n : ℕ) (ps : List ℕ) → Rises a (a + n) ps → ((q : ℕ) → a ≤ q → q < a + n → is_among ps q ≡ false → g q ≡ []) →
      flat_map g (range_with_len a n) ≡ flat_map g ps
  joined_among a zero [] r off = refl
  joined_among a zero (p ∷ ps) r off = let h = length-rises (p + 1) (a + 0) ps r.1 in absurd (omega (arith, h, r.0))
  joined_among a (suc n) [] r off =
      let e : a + 1 + n ≡ a + suc n = omega arith in
      ap (λ xs. xs ++ flat_map g (range_with_len (a + 1) n)) (off a (omega arith) (omega arith) refl)
      ∙ joined_among (a + 1) n [] (omega arith) (λ q low high none. off q (omega arith) (omega arith) none)
  joined_among a (suc n) (p ∷ ps) r off =
      let e : a + suc n ≡ a + 1 + n = omega arith in
      let lower : a ≤ p = r.0 in
      elim (cases_eq a p) [
        | inl same ↦
            ap (λ q. g q ++ flat_map g (range_with_len (a + 1) n)) same
            ∙ ap (λ xs. g p ++ xs) (joined_among (a + 1) n ps
            (subst (λ (h : ℕ). Rises (a + 1) h ps) e (subst (λ q. Rises (q + 1) (a + suc n) ps) (sym same) r.1))
            (λ q low high none. off q (omega arith) (omega arith) (or_from (q == p) (is_among ps q) (ne_eqb q p (λ d. absurd (omega arith))) none)))
        | inr differ ↦
            ap (λ xs. xs ++ flat_map g (range_with_len (a + 1) n))
            (off a (omega arith) (omega arith) (or_from (a == p) (is_among ps a) (ne_eqb a p differ) (not_among (p + 1) (a + suc n) a ps r.1 (omega arith))))
            ∙ joined_among (a + 1) n (p ∷ ps) (omega arith, subst (λ (h : ℕ). Rises (p + 1) h ps) e r.1)
            (λ q low high none. off q (omega arith) (omega arith) none)
      ]

  pub joined_below : (m : ℕ) (ps : List ℕ) → Rises 0 m ps → ((q : ℕ) → q < m → is_among ps q ≡ false → g q ≡ []) →
      flat_map g (range_with_len 0 m) ≡ flat_map g ps
  joined_below m ps r off =
      let e : m ≡ 0 + m = omega arith in
      joined_among 0 m ps (subst (λ (h : ℕ). Rises 0 h ps) e r) (λ q _ high none. off q (omega arith) none)

-- ---- the first and the last place of a wire

-- q is the last beginning up to place p
pub record IsFirst (b : ℕ → Bool) (p q : ℕ) : Type 0 where
  pub from : 1 ≤ q
  pub upto : q ≤ p
  pub begins : b q ≡ true
  pub none : (k : ℕ) → q < k → k ≤ p → b k ≡ false

-- a wire that begins at q ends at l
pub record IsLast (b : ℕ → Bool) (n q l : ℕ) : Type 0 where
  pub from : q ≤ l
  pub upto : l ≤ n
  pub none : (k : ℕ) → q < k → k ≤ l → b k ≡ false
  pub next : l < n → b (l + 1) ≡ true

module _ (b : ℕ → Bool) where
  pub last_is : (n q : ℕ) → q ≤ n → IsLast b n q (q + position_or_len b (range_with_len (q + 1) (n - q)))
  last_is n q l =
      let ks = range_with_len (q + 1) (n - q) in
      let s = position_or_len b ks in
      let size : length ks ≡ n - q = length-range_with_len (q + 1) (n - q) in
      let most = prefix_len-le-length (λ k. not (b k)) ks in
      record {
        from = omega arith;
        upto = omega arith;
        none = λ k low high.
            let here : k - q - 1 < n - q = omega arith in
            let e : q + 1 + (k - q - 1) ≡ k = omega arith in
            sym (ap b (get_or-range_with_len (q + 1) (n - q) (k - q - 1) 0 here ∙ e)) ∙ fails_before_first b ks (k - q - 1) 0 (omega arith);
        next = λ more.
            let here : s < n - q = omega arith in
            let e : q + 1 + s ≡ q + s + 1 = omega arith in
            sym (ap b (get_or-range_with_len (q + 1) (n - q) s 0 here ∙ e)) ∙ passes_at_first b ks 0 (omega arith);
      }

  pub first_is : (p : ℕ) → b 1 ≡ true → 1 ≤ p → IsFirst b p (p - position_or_len (λ k. b (p - k)) (range_with_len 0 p))
  first_is p starts l =
      let ks = range_with_len 0 p in
      let t : ℕ → Bool = λ k. b (p - k) in
      let s = position_or_len t ks in
      let size : length ks ≡ p = length-range_with_len 0 p in
      let most : s < p = elim (cases_lt s p) [
        | inl below ↦ below
        | inr past ↦
            let here : p - 1 < p = omega arith in
            let e : p - (p - 1) ≡ 1 = omega arith in
            let fails = fails_before_first t ks (p - 1) 0 (omega arith) in
            absurd (false≢true (sym fails ∙ ap t (get_or-range_with_len 0 p (p - 1) 0 here ∙ zero-add (p - 1)) ∙ ap b e ∙ starts))
      ] in
      record {
        from = omega arith;
        upto = omega arith;
        begins = ap t (sym (get_or-range_with_len 0 p s 0 most ∙ zero-add s)) ∙ passes_at_first t ks 0 (omega arith);
        none = λ k low high.
            let here : p - k < p = omega arith in
            let e : p - (p - k) ≡ k = omega arith in
            sym (ap t (get_or-range_with_len 0 p (p - k) 0 here ∙ zero-add (p - k)) ∙ ap b e) ∙ fails_before_first t ks (p - k) 0 (omega arith);
      }

  -- the wire that begins at q and runs through p begins at the last beginning up to p
  pub first_only : (p q r : ℕ) → IsFirst b p q → b r ≡ true → 1 ≤ r → r ≤ p → ((k : ℕ) → r < k → k ≤ p → b k ≡ false) → r ≡ q
  first_only p q r h begins from upto none = elim (cases_order r q) [
    | inl same ↦ same
    | inr (inl below) ↦ absurd (false≢true (sym (none q below h.upto) ∙ h.begins))
    | inr (inr above) ↦ absurd (false≢true (sym (h.none r above upto) ∙ begins))
  ]

  pub first_grows : (p q r s : ℕ) → IsFirst b p q → IsFirst b r s → p ≤ r → q ≤ s
  first_grows p q r s g h l = elim (cases_lt s q) [
    | inr le ↦ le
    | inl below ↦ let upto : q ≤ r = omega arith in absurd (false≢true (sym (h.none q below upto) ∙ g.begins))
  ]

  pub first_itself : (p q : ℕ) → IsFirst b p q → b p ≡ true → q ≡ p
  first_itself p q h begins = elim (cases_lt q p) [
    | inr le ↦ omega arith
    | inl below ↦ absurd (false≢true (sym (h.none p below (omega arith)) ∙ begins))
  ]

  -- the wire of the last beginning up to p runs through p
  pub last_reaches : (n p q l : ℕ) → IsFirst b p q → IsLast b n q l → p ≤ n → p ≤ l
  last_reaches n p q l g h le = elim (cases_lt l p) [
    | inr past ↦ past
    | inl short ↦
        let more : l < n = omega arith in
        let after : q < l + 1 = omega arith in
        let upto : l + 1 ≤ p = omega arith in
        absurd (false≢true (sym (g.none (l + 1) after upto) ∙ h.next more))
  ]

module _ (f : Fabric) (n t : ℕ) where
  pub begins_first : begins f n t 1 ≡ true
  unfolding begins
  begins_first = refl

  pub first_of-is : (p : ℕ) → 1 ≤ p → IsFirst (begins f n t) p (first_of f n t p)
  unfolding first_of
  first_of-is p l = first_is (begins f n t) p begins_first l

  pub last_of-is : (q : ℕ) → q ≤ n → IsLast (begins f n t) n q (last_of f n t q)
  unfolding steps_of
  last_of-is q l = last_is (begins f n t) n q l

  -- a wire begins at q
  pub record IsBeginning (q : ℕ) : Type 0 where
    pub from : 1 ≤ q
    pub upto : q ≤ n
    pub begins_here : begins f n t q ≡ true

  pub beginning : (q : ℕ) → (is_between 1 n q && begins f n t q) ≡ true → IsBeginning q
  beginning q e =
      let both = and_parts (is_between 1 n q) (begins f n t q) e in
      let within = and_parts (nat_le 1 q) (nat_le q n) both.0 in
      record { from = leb-true 1 q within.0; upto = leb-true q n within.1; begins_here = both.1 }

  pub beginning-test : (q : ℕ) → IsBeginning q → (is_between 1 n q && begins f n t q) ≡ true
  beginning-test q h = and_from (is_between 1 n q) (begins f n t q) (and_from (nat_le 1 q) (nat_le q n) (le-leb 1 q h.from) (le-leb q n h.upto)) h.begins_here

  pub first_begins : (p : ℕ) → 1 ≤ p → p ≤ n → IsBeginning (first_of f n t p)
  first_begins p l m =
      let h = first_of-is p l in
      record { from = h.from; upto = omega arith; begins_here = h.begins }

  -- the wire that begins at q runs through p
  pub first_of_only : (p q : ℕ) → 1 ≤ p → p ≤ n → IsBeginning q → q ≤ p → p ≤ last_of f n t q → q ≡ first_of f n t p
  first_of_only p q l m h low high =
      let last = last_of-is q h.upto in
      first_only (begins f n t) p (first_of f n t p) q (first_of-is p l) h.begins_here h.from low (λ k after upto. last.none k after (omega arith))

  pub first_of_reaches : (p : ℕ) → 1 ≤ p → p ≤ n → p ≤ last_of f n t (first_of f n t p)
  first_of_reaches p l m =
      let h = first_begins p l m in
      last_reaches (begins f n t) n p (first_of f n t p) (last_of f n t (first_of f n t p)) (first_of-is p l) (last_of-is (first_of f n t p) h.upto) m

  pub first_of_grows : (p r : ℕ) → 1 ≤ p → p ≤ r → first_of f n t p ≤ first_of f n t r
  first_of_grows p r l m = first_grows (begins f n t) p (first_of f n t p) r (first_of f n t r) (first_of-is p l) (first_of-is r (omega arith)) m

  pub first_of_itself : (p : ℕ) → IsBeginning p → first_of f n t p ≡ p
  first_of_itself p h = first_itself (begins f n t) p (first_of f n t p) (first_of-is p h.from) h.begins_here

  -- just behind a wire begins the next
  pub begins_after : (q : ℕ) → IsBeginning q → last_of f n t q < n → IsBeginning (last_of f n t q + 1)
  begins_after q h l =
      let last = last_of-is q h.upto in
      record { from = omega arith; upto = omega arith; begins_here = last.next l }

  -- q is where the wire through p begins
  pub is_first_of : (p q : ℕ) → 1 ≤ p → p ≤ n → (q == first_of f n t p) ≡ ((is_between 1 n q && begins f n t q) && (nat_le q p && nat_le p (last_of f n t q)))
  is_first_of p q l m = elim (cases_eq q (first_of f n t p)) [
    | inl e ↦
        let h = first_of-is p l in
        let reaches = subst (λ r. p ≤ last_of f n t r) (sym e) (first_of_reaches p l m) in
        let begins_here = subst IsBeginning (sym e) (first_begins p l m) in
        eq-eqb q (first_of f n t p) e
        ∙ sym (and_from _ _ (beginning-test q begins_here)
        (and_from (nat_le q p) (nat_le p (last_of f n t q)) (le-leb q p (omega arith)) (le-leb p (last_of f n t q) reaches)))
    | inr differ ↦
        ne_eqb q (first_of f n t p) differ
        ∙ sym (false_from_ne_true _ (λ e.
        let both = and_parts (is_between 1 n q && begins f n t q) (nat_le q p && nat_le p (last_of f n t q)) e in
        let within = and_parts (nat_le q p) (nat_le p (last_of f n t q)) both.1 in
        differ (first_of_only p q l m (beginning q both.0) (leb-true q p within.0) (leb-true p (last_of f n t q) within.1))))
  ]
