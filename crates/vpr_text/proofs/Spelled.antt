-- Numbers by their digits, and what stands around the first byte of a kind.
use Rattle.std.proofs.Common.{◌≡◌, ℕ, zero, suc, ◌+◌, ◌-◌, ◌*◌, ◌^◌, ◌<◌, ◌≤◌, Bool, true, false, cond, eqb, ltb, leb, List, [], ◌∷◌, ◌++◌, length, Some, None, Option, refl, sym, ap, subst, ◌∙◌, arith, inl, inr}
use Rattle.std.specs.Prelude.{◌&&◌, ◌||◌, not, SomeIff}
use Rattle.std.specs.List.{list_all, list_any, position, position_or_len, before_first, after_first}
use Rattle.std.proofs.lemmas.Bool.{cases_lt, cases_Bool, and_cases, lt-ltb, le-ltb, le-leb, ltb-false, eqb-false, and_parts}
use Rattle.std.proofs.lemmas.Option.{cond_some}
use Rattle.std.proofs.lemmas.List.Folds.{list_all-append}
use Rattle.std.proofs.lemmas.List.Sums.{fold-append}
use Rattle.std.proofs.Math.Bool.{and-false}
use Rattle.vpr_text.specs.Words.{is_filled}
use Rattle.vpr_text.specs.Numbers.{is_digit, is_point, fixed_of, value_after, value_of, is_whole, is_exponent_sign, is_exponent, is_pointed, is_unsigned}

pub cond_none : (b : Bool) (n : ℕ) → None ≡ cond b (Some n) None → b ≡ false
cond_none true n e = absurd cc
cond_none false n e = refl

none_if : (b : Bool) (n : ℕ) → b ≡ false → None ≡ cond b (Some n) None
none_if b n e = sym (ap (λ (t : Bool). cond t (Some n) None) e)

pub some_if : (b : Bool) (n : ℕ) → b ≡ true → Some n ≡ cond b (Some n) None
some_if b n e = sym (ap (λ (t : Bool). cond t (Some n) None) e)

-- digits only make a number greater
pub value_after-ge : (n : ℕ) (digits : List ℕ) → n ≤ value_after n digits
value_after-ge n [] = omega arith
value_after-ge n (b ∷ bs) = omega (arith, value_after-ge (n * 10 + (b - 48)) bs)

pub value_no_fit : (n : ℕ) (digits : List ℕ) (m : ℕ) → m ≤ value_after n digits → None ≡ cond (list_all is_digit digits && ltb (value_after n digits) m) (Some (value_after n digits)) None
value_no_fit n digits m le =
    none_if (list_all is_digit digits && ltb (value_after n digits) m) (value_after n digits) (ap (λ (t : Bool). list_all is_digit digits && t) (le-ltb (value_after n digits) m le) ∙ and-false (list_all is_digit digits))

-- ---- fixed

abbrev pub units : List ℕ → List ℕ → ℕ
units whole decimals = value_of (whole ++ decimals) * 10 ^ (9 - length decimals)

abbrev pub fits : List ℕ → List ℕ → Bool
fits whole decimals = is_whole (whole ++ decimals) && leb (length decimals) 9 && ltb (units whole decimals) (2 ^ 64)

fails_digits : (f l u a : Bool) → a ≡ false → (((f && a) && l) && u) ≡ false
fails_digits f l u a e = ap (λ (t : Bool). ((f && t) && l) && u) e ∙ ap (λ (t : Bool). (t && l) && u) (and-false f)

fails_last : (t u : Bool) → u ≡ false → (t && u) ≡ false
fails_last t u e = ap (λ (v : Bool). t && v) e ∙ and-false t

holds : (f a l u : Bool) → f ≡ true → a ≡ true → l ≡ true → u ≡ true → (((f && a) && l) && u) ≡ true
holds f a l u p q r s = ap (λ (t : Bool). ((t && a) && l) && u) p ∙ ap (λ (t : Bool). (t && l) && u) q ∙ ap (λ (t : Bool). t && u) r ∙ s

value_of-append : (whole decimals : List ℕ) → value_of (whole ++ decimals) ≡ value_after (value_of whole) decimals
value_of-append whole decimals = fold-append (λ m b. m * 10 + (b - 48)) 0 whole decimals

power_positive : (k : ℕ) → 0 < 10 ^ k
power_positive zero = omega arith
power_positive (suc k) = let e = power_positive k in grind arith

times_power : (n k m : ℕ) → m ≤ n → m ≤ n * 10 ^ k
times_power n k m le = let e = power_positive k in grind arith

digits-no : (whole decimals : List ℕ) → (list_all is_digit whole && list_all is_digit decimals) ≡ false → fits whole decimals ≡ false
digits-no whole decimals e =
    fails_digits (is_filled (whole ++ decimals)) (leb (length decimals) 9) (ltb (units whole decimals) (2 ^ 64)) (list_all is_digit (whole ++ decimals)) (list_all-append is_digit whole decimals ∙ e)

value-no : (whole decimals : List ℕ) → 2 ^ 64 ≤ value_after (value_of whole) decimals → fits whole decimals ≡ false
value-no whole decimals le =
    fails_last (is_whole (whole ++ decimals) && leb (length decimals) 9) (ltb (units whole decimals) (2 ^ 64))
    (le-ltb (units whole decimals) (2 ^ 64) (times_power (value_of (whole ++ decimals)) (9 - length decimals) (2 ^ 64) (subst (λ (n : ℕ). 2 ^ 64 ≤ n) (sym (value_of-append whole decimals)) le)))

and_first : (a b : Bool) → a ≡ false → (a && b) ≡ false
and_first a b e = ap (λ (t : Bool). t && b) e

pub fixed-no_whole : (whole decimals : List ℕ) → (list_all is_digit whole && ltb (value_of whole) (2 ^ 64)) ≡ false → None ≡ cond (fits whole decimals) (Some (units whole decimals)) None
fixed-no_whole whole decimals e = none_if (fits whole decimals) (units whole decimals) (elim (and_cases (list_all is_digit whole) (ltb (value_of whole) (2 ^ 64)) e) [
  | inl p ↦ digits-no whole decimals (and_first (list_all is_digit whole) (list_all is_digit decimals) p)
  | inr p ↦ value-no whole decimals (let le = ltb-false (value_of whole) (2 ^ 64) p in omega (arith, value_after-ge (value_of whole) decimals))
])

pub fixed-no_decimals : (whole decimals : List ℕ) → (list_all is_digit decimals && ltb (value_after (value_of whole) decimals) (2 ^ 64)) ≡ false → None ≡ cond (fits whole decimals) (Some (units whole decimals)) None
fixed-no_decimals whole decimals e = none_if (fits whole decimals) (units whole decimals) (elim (and_cases (list_all is_digit decimals) (ltb (value_after (value_of whole) decimals) (2 ^ 64)) e) [
  | inl p ↦ digits-no whole decimals (fails_last (list_all is_digit whole) (list_all is_digit decimals) p)
  | inr p ↦ value-no whole decimals (ltb-false (value_after (value_of whole) decimals) (2 ^ 64) p)
])

-- what the product gives where the digits are there
pub fixed_product : (whole decimals : List ℕ) (v w : ℕ) (r : Option ℕ) → is_filled (whole ++ decimals) ≡ true → length decimals ≤ 9
    → Some v ≡ cond (list_all is_digit whole && ltb (value_of whole) (2 ^ 64)) (Some (value_of whole)) None
    → Some w ≡ cond (list_all is_digit decimals && ltb (value_after v decimals) (2 ^ 64)) (Some (value_after v decimals)) None
    → SomeIff r (w * 10 ^ (9 - length decimals) < 2 ^ 64) (w * 10 ^ (9 - length decimals))
    → r ≡ cond (fits whole decimals) (Some (units whole decimals)) None
fixed_product whole decimals v w r filled short e d product =
    let p = cond_some (list_all is_digit whole && ltb (value_of whole) (2 ^ 64)) (value_of whole) v (sym e) in
    let q = cond_some (list_all is_digit decimals && ltb (value_after v decimals) (2 ^ 64)) (value_after v decimals) w (sym d) in
    let digits : list_all is_digit (whole ++ decimals) ≡ true =
    list_all-append is_digit whole decimals ∙ ap (λ (t : Bool). t && list_all is_digit decimals) (and_parts (list_all is_digit whole) (ltb (value_of whole) (2 ^ 64)) p.0).0
    ∙ (and_parts (list_all is_digit decimals) (ltb (value_after v decimals) (2 ^ 64)) q.0).0 in
    let value : w ≡ value_of (whole ++ decimals) = sym q.1 ∙ ap (λ (n : ℕ). value_after n decimals) (sym p.1) ∙ sym (value_of-append whole decimals) in
    let same : w * 10 ^ (9 - length decimals) ≡ units whole decimals = ap (λ (n : ℕ). n * 10 ^ (9 - length decimals)) value in
    made r (subst (λ (n : ℕ). SomeIff r (n < 2 ^ 64) n) same product) digits where
      made : (r : Option ℕ) → SomeIff r (units whole decimals < 2 ^ 64) (units whole decimals) → list_all is_digit (whole ++ decimals) ≡ true → r ≡ cond (fits whole decimals) (Some (units whole decimals)) None
      made None large digits =
          none_if (fits whole decimals) (units whole decimals) (fails_last (is_whole (whole ++ decimals) && leb (length decimals) 9) (ltb (units whole decimals) (2 ^ 64))
          (elim (cases_lt (units whole decimals) (2 ^ 64)) [ inl lt ↦ absurd (large lt) | inr le ↦ le-ltb (units whole decimals) (2 ^ 64) le ]))
      made (Some n) small digits =
          ap Some small.1 ∙ some_if (fits whole decimals) (units whole decimals)
          (holds (is_filled (whole ++ decimals)) (list_all is_digit (whole ++ decimals)) (leb (length decimals) 9) (ltb (units whole decimals) (2 ^ 64)) filled digits (le-leb (length decimals) 9 short) (lt-ltb (units whole decimals) (2 ^ 64) small.0))

pub is_filled-append : (whole decimals : List ℕ) → 0 < length whole + length decimals → is_filled (whole ++ decimals) ≡ true
is_filled-append [] [] h = absurd (omega arith)
is_filled-append [] (b ∷ bs) h = refl
is_filled-append (b ∷ bs) decimals h = refl

pub filled_left : (whole decimals : List ℕ) → eqb (length whole) 0 ≡ false → is_filled (whole ++ decimals) ≡ true
filled_left whole decimals e = is_filled-append whole decimals (let ne = eqb-false (length whole) 0 e in omega arith)

pub filled_right : (whole decimals : List ℕ) → eqb (length decimals) 0 ≡ false → is_filled (whole ++ decimals) ≡ true
filled_right whole decimals e = is_filled-append whole decimals (let ne = eqb-false (length decimals) 0 e in omega arith)

-- the parts are those round the point
pub fixed_is : (word whole decimals : List ℕ) (r : Option ℕ) → whole ≡ before_first is_point word → decimals ≡ after_first is_point word
    → r ≡ cond (fits whole decimals) (Some (units whole decimals)) None → r ≡ fixed_of word
fixed_is word whole decimals r e d h =
    h ∙ ap (λ (w : List ℕ). cond (fits w decimals) (Some (units w decimals)) None) e
    ∙ ap (λ (w : List ℕ). cond (fits (before_first is_point word) w) (Some (units (before_first is_point word) w)) None) d

-- ---- an exponent

ltb-both : (a b : ℕ) → ltb (1 + a) (suc b) ≡ ltb a b
ltb-both a b = elim (cases_lt a b) [ inl lt ↦ lt-ltb (1 + a) (suc b) (omega arith) ∙ sym (lt-ltb a b lt) | inr le ↦ le-ltb (1 + a) (suc b) (omega arith) ∙ sym (le-ltb a b le) ]

list_any-position : (p : ℕ → Bool) (xs : List ℕ) → list_any p xs ≡ ltb (position_or_len p xs) (length xs)
list_any-position p [] = refl
list_any-position p (x ∷ xs) = elim (cases_Bool (p x)) [
  | inl e ↦ ap (λ (t : Bool). t || list_any p xs) e ∙ sym (ap (λ (t : Bool). ltb (cond (not t) (1 + position_or_len p xs) 0) (length (x ∷ xs))) e ∙ lt-ltb 0 (length (x ∷ xs)) (omega arith))
  | inr e ↦ ap (λ (t : Bool). t || list_any p xs) e ∙ list_any-position p xs ∙ sym (ap (λ (t : Bool). ltb (cond (not t) (1 + position_or_len p xs) 0) (length (x ∷ xs))) e ∙ ltb-both (position_or_len p xs) (length xs))
]

-- the place of the first that passes, as it stands in `position`
pub position-some : (p : ℕ → Bool) (xs : List ℕ) (i : ℕ) → Some i ≡ position p xs → (position_or_len p xs ≡ i) × (list_any p xs ≡ true)
position-some p xs i e =
    let h = cond_some (ltb (position_or_len p xs) (length xs)) (position_or_len p xs) i (sym e) in
    (h.1, list_any-position p xs ∙ h.0)

pub position-none : (p : ℕ → Bool) (xs : List ℕ) → None ≡ position p xs → (length xs ≤ position_or_len p xs) × (list_any p xs ≡ false)
position-none p xs e =
    let h = cond_none (ltb (position_or_len p xs) (length xs)) (position_or_len p xs) e in
    (ltb-false (position_or_len p xs) (length xs) h, list_any-position p xs ∙ h)

pub is_unsigned-exponent : (word : List ℕ) (pointed exponent : Bool) → list_any is_exponent_sign word ≡ true → pointed ≡ is_pointed (before_first is_exponent_sign word) → exponent ≡ is_exponent (after_first is_exponent_sign word)
    → (pointed && exponent) ≡ is_unsigned word
is_unsigned-exponent word pointed exponent e p q =
    ap (λ (t : Bool). t && exponent) p ∙ ap (λ (t : Bool). is_pointed (before_first is_exponent_sign word) && t) q
    ∙ ap (λ (t : Bool). is_pointed (before_first is_exponent_sign word) && cond t (is_exponent (after_first is_exponent_sign word)) true) (sym e)

and_true : (b : Bool) → b ≡ (b && true)
and_true true = refl
and_true false = refl

pub is_unsigned-plain : (word : List ℕ) → list_any is_exponent_sign word ≡ false → is_pointed (before_first is_exponent_sign word) ≡ is_unsigned word
is_unsigned-plain word e =
    and_true (is_pointed (before_first is_exponent_sign word))
    ∙ ap (λ (t : Bool). is_pointed (before_first is_exponent_sign word) && cond t (is_exponent (after_first is_exponent_sign word)) true) (sym e)

pub value_before : (whole : List ℕ) (v : ℕ) → Some v ≡ cond (list_all is_digit whole && ltb (value_of whole) (2 ^ 64)) (Some (value_of whole)) None → v ≡ value_of whole
value_before whole v e = sym (cond_some (list_all is_digit whole && ltb (value_of whole) (2 ^ 64)) (value_of whole) v (sym e)).1
