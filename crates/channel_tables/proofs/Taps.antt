-- Which tracks a pin taps, by arithmetic alone.
use Rattle.std.proofs.Common.{◌≡◌, ℕ, ◌+◌, ◌-◌, ◌*◌, ◌/◌, ◌%◌, ◌<◌, ◌≤◌, ◌⊎◌, inl, inr, Bool, false, map, subst, sym, ap, ◌∙◌, arith}
use Rattle.std.specs.Prelude.{◌==◌, nat_lt}
use Rattle.std.specs.List.{range_with_len, list_any}
use Rattle.std.proofs.Math.Nat.{mul-le-mul_right, mod-eq_of_lt, mod-add-mod, add-mod_left, div-mul-le_self, lt-div-mul-add, div-lt_iff_lt-mul, div-eq_of_lt-le}
use Rattle.std.proofs.lemmas.Bool.{cases_lt, cases_Bool, eq-eqb, ne_eqb, eqb-true, le-ltb, lt-ltb}
use Rattle.channel_tables.proofs.Ranges.{none_mapped, some_mapped}

remainder : (n w : ℕ) → n < w + w → (n % w ≡ n) ⊎ (n % w + w ≡ n)
remainder n w l = elim (cases_lt n w) [
  | inl h ↦ inl (mod-eq_of_lt h)
  | inr h ↦ inr (
      let s : n ≡ w + (n - w) = omega arith in
      omega (arith, ap (λ m. m % w) s, add-mod_left w (n - w), mod-eq_of_lt {n = n - w} {m = w} (omega arith)))
]

-- the steps from p on to a track, where the first track comes after the last
abbrev pub steps : (w p t : ℕ) → ℕ
steps w p t = (t + w - p % w) % w

module _ (w p t : ℕ) (within : t < w) where
  steps_are : (p % w + steps w p t ≡ t) ⊎ (p % w + steps w p t ≡ t + w)
  steps_are = elim (remainder (t + w - p % w) w (omega arith)) [ inl e ↦ inr (omega arith) | inr e ↦ inl (omega arith) ]

  lands : (s : ℕ) → s < w → ((p + s) % w ≡ p % w + s) ⊎ ((p + s) % w + w ≡ p % w + s)
  lands s l = elim (remainder (p % w + s) w (omega arith)) [
    | inl e ↦ inl (omega (arith, mod-add-mod p w s))
    | inr e ↦ inr (omega (arith, mod-add-mod p w s))
  ]

  pub steps_unique : (s : ℕ) → s < w → (p + s) % w ≡ t → s ≡ steps w p t
  steps_unique s l e = elim steps_are [
    | inl a ↦ elim (lands s l) [ inl b ↦ omega arith | inr b ↦ omega arith ]
    | inr a ↦ elim (lands s l) [ inl b ↦ omega arith | inr b ↦ omega arith ]
  ]

  steps_land : (p + steps w p t) % w ≡ t
  steps_land =
      let less : steps w p t < w = omega arith in
      elim steps_are [
        | inl a ↦ elim (lands (steps w p t) less) [ inl b ↦ omega arith | inr b ↦ omega arith ]
        | inr a ↦ elim (lands (steps w p t) less) [ inl b ↦ omega arith | inr b ↦ omega arith ]
      ]

-- the steps by a comparison
pub steps_ahead : (w p t : ℕ) → t < w → p % w ≤ t → t - p % w ≡ steps w p t
steps_ahead w p t within low = elim (steps_are w p t within) [ inl e ↦ omega (arith, e, low) | inr e ↦ omega (arith, e, low) ]

pub steps_around : (w p t : ℕ) → t < w → t < p % w → t + w - p % w ≡ steps w p t
steps_around w p t within high = elim (steps_are w p t within) [ inl e ↦ omega (arith, e, high) | inr e ↦ omega (arith, e, high) ]

-- the least i with d * count ≤ i * w
abbrev first_tap : (count w d : ℕ) → ℕ
first_tap count w d = (d * count + w - 1) / w

module _ (count w i : ℕ) (some : 0 < count) (wide : 0 < w) where
  first_tap_below : first_tap count w ((i * w) / count) ≤ i
  first_tap_below =
      let less : first_tap count w ((i * w) / count) < i + 1 = (div-lt_iff_lt-mul wide).1 (omega (arith, div-mul-le_self (i * w) count)) in omega arith

  first_tap_same : (first_tap count w ((i * w) / count) * w) / count ≡ (i * w) / count
  first_tap_same =
      let d = (i * w) / count in
      let up = mul-le-mul_right {m = first_tap count w d} {n = i} w first_tap_below in
      div-eq_of_lt-le {k = d} count (omega (arith, lt-div-mul-add {a = d * count + w - 1} wide)) (omega (arith, up, lt-div-mul-add {a = i * w} some))

  pub step_below : i < count → (i * w) / count < w
  step_below l = (div-lt_iff_lt-mul some).1 (omega (arith, mul-le-mul_right {m = i + 1} {n = count} w (omega arith)))

-- the first tap that reaches as far lies on that step exactly where it comes before the next one
pub on_step : (count w d : ℕ) → 0 < count → 0 < w → nat_lt (first_tap count w d * w) ((d + 1) * count) ≡ ((first_tap count w d * w) / count == d)
on_step count w d some wide =
    let i = first_tap count w d in
    let reach : d * count ≤ i * w = omega (arith, lt-div-mul-add {a = d * count + w - 1} wide) in
    elim (cases_lt (i * w) ((d + 1) * count)) [
      | inl l ↦ lt-ltb (i * w) ((d + 1) * count) l ∙ sym (eq-eqb ((i * w) / count) d (div-eq_of_lt-le {k = d} count reach l))
      | inr h ↦
          le-ltb (i * w) ((d + 1) * count) h
          ∙ sym (ne_eqb ((i * w) / count) d (λ e. let same = ap (λ q. q * count) e in omega (arith, lt-div-mul-add {a = i * w} some, same, h)))
    ]

module _ (count w p t : ℕ) (some : 0 < count) (wide : 0 < w) where
  abbrev track_of : ℕ → ℕ
  track_of i = (p + (i * w) / count) % w

  abbrev any_lands : Bool
  any_lands = list_any (λ k. k == t) (map track_of (range_with_len 0 count))

  -- of those that land on the track none comes before the first tap that reaches as far, and all
  -- lie as far as that one
  landing : t < w → (k : ℕ) → k < count → track_of k ≡ t
      → (first_tap count w (steps w p t) ≤ k) × ((first_tap count w (steps w p t) * w) / count ≡ steps w p t)
  landing l k m h =
      let step = steps_unique w p t l ((k * w) / count) (step_below count w k some wide m) h in
      subst (λ d. (first_tap count w d ≤ k) × ((first_tap count w d * w) / count ≡ d)) step
      (first_tap_below count w k some wide, first_tap_same count w k some wide)

  any_lands_within : t < w → first_tap count w (steps w p t) < count
      → ((first_tap count w (steps w p t) * w) / count == steps w p t) ≡ any_lands
  any_lands_within l m =
      let d = steps w p t in
      let i = first_tap count w d in
      elim (cases_Bool ((i * w) / count == d)) [
        | inl e ↦ e ∙ sym (some_mapped (λ k. k == t) track_of count i m
            (eq-eqb (track_of i) t (ap (λ s. (p + s) % w) (eqb-true ((i * w) / count) d e) ∙ steps_land w p t l)))
        | inr e ↦ e ∙ sym (none_mapped (λ k. k == t) track_of count
            (λ k n. ne_eqb (track_of k) t (λ h. absurd (let q = eq-eqb ((i * w) / count) d (landing l k n h).1 in cc))))
      ]

  none_lands_past : t < w → count ≤ first_tap count w (steps w p t) → any_lands ≡ false
  none_lands_past l m = none_mapped (λ k. k == t) track_of count (λ k n. ne_eqb (track_of k) t (λ h. omega (arith, (landing l k n h).0)))

  -- where the steps were counted
  pub lands_on_step : t < w → (d : ℕ) → d ≡ steps w p t → first_tap count w d < count → nat_lt (first_tap count w d * w) ((d + 1) * count) ≡ any_lands
  lands_on_step l d e m =
      on_step count w d some wide
      ∙ subst (λ s. ((first_tap count w s * w) / count == s) ≡ any_lands) (sym e) (any_lands_within l (subst (λ s. first_tap count w s < count) e m))

  pub lands_past : t < w → (d : ℕ) → d ≡ steps w p t → count ≤ first_tap count w d → any_lands ≡ false
  lands_past l d e m = none_lands_past l (subst (λ s. count ≤ first_tap count w s) e m)

  pub none_lands_beyond : w ≤ t → any_lands ≡ false
  none_lands_beyond l = none_mapped (λ k. k == t) track_of count (λ k m. ne_eqb (track_of k) t (λ e. omega arith))
