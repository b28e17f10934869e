-- How many tracks a pin taps: no two of its taps are on one track.
use Rattle.std.proofs.Common.{◌≡◌, ◌≢◌, ℕ, ◌+◌, ◌*◌, ◌/◌, ◌%◌, ◌<◌, ◌≤◌, zero, suc, inl, inr, Bool, true, false, cond, List, [], ◌∷◌, length, map, refl, sym, ap, ◌∙◌, arith}
use Rattle.std.specs.Prelude.{◌==◌, ◌||◌, if◌then◌else◌}
use Rattle.std.specs.List.{list_any, filter}
use Rattle.std.proofs.Math.Bool.{or-false}
use Rattle.std.proofs.Math.Nat.{mul-le-mul_right, div-mul-le_self, le-div_iff_mul-le}
use Rattle.std.proofs.lemmas.Bool.{cases_eq, eq-eqb, ne_eqb, eqb-true, false_from_ne_true, false≢true}
use Rattle.std.proofs.lemmas.List.{map-append}
use Rattle.std.proofs.lemmas.List.Folds.{list_any-append}
use Rattle.std.proofs.lemmas.List.Elements.{filter_agree}
use Rattle.channel_tables.specs.declared.node.Mode.{Mode}
use Rattle.channel_tables.specs.declared.node.Mode.TheVariants.{Detailed, Global}
use Rattle.channel_tables.specs.Fabric.{Fabric, IsFabric, numbers_below}
use Rattle.channel_tables.specs.Wires.{tracks_in}
use Rattle.channel_tables.specs.Pins.{tap_count, tracks_by, tapped_tracks}
use Rattle.rr_edges.specs.kept.PinSuccessors.{taps_track}
use Rattle.rr_edges.specs.kept.Terminals.{all_tracks}
use Rattle.channel_tables.proofs.Ranges.{below_next, none_mapped}
use Rattle.channel_tables.proofs.WireTables.{count_next}
use Rattle.channel_tables.proofs.Taps.{steps_unique, step_below}

-- ---- how many numbers pass a test
none_equal : (m w : ℕ) → w ≤ m → length (filter (λ t. m == t) (numbers_below w)) ≡ 0
none_equal m zero l = refl
none_equal m (suc w) l =
    let e : suc w ≡ w + 1 = omega arith in
    ap (λ k. length (filter (λ t. m == t) (numbers_below k))) e ∙ count_next (λ t. m == t) w
    ∙ ap (λ b. length (filter (λ t. m == t) (numbers_below w)) + (if b then 1 else 0)) (ne_eqb m w (λ d. omega arith)) ∙ omega (arith, none_equal m w (omega arith))

one_equal : (m w : ℕ) → m < w → length (filter (λ t. m == t) (numbers_below w)) ≡ 1
one_equal m zero l = absurd (omega arith)
one_equal m (suc w) l =
    let e : suc w ≡ w + 1 = omega arith in
    ap (λ k. length (filter (λ t. m == t) (numbers_below k))) e ∙ count_next (λ t. m == t) w ∙ elim (cases_eq m w) [
      | inl same ↦ ap (λ b. length (filter (λ t. m == t) (numbers_below w)) + (if b then 1 else 0)) (eq-eqb m w same) ∙ omega (arith, none_equal m w (omega arith))
      | inr differ ↦ ap (λ b. length (filter (λ t. m == t) (numbers_below w)) + (if b then 1 else 0)) (ne_eqb m w differ) ∙ omega (arith, one_equal m w (omega arith))
    ]

none_pass : (ts : List ℕ) → filter (λ t. false) ts ≡ []
none_pass [] = refl
none_pass (t ∷ ts) = none_pass ts

either_passes : (p q : ℕ → Bool) → ((t : ℕ) → p t ≡ true → q t ≡ false) → (ts : List ℕ) → length (filter (λ t. p t || q t) ts) ≡ length (filter p ts) + length (filter q ts)
either_passes p q apart [] = refl
either_passes p q apart (t ∷ ts) = by_tests (p t) (q t) (apart t) (either_passes p q apart ts)
  where
    by_tests : (b c : Bool) → (b ≡ true → c ≡ false) → length (filter (λ t. p t || q t) ts) ≡ length (filter p ts) + length (filter q ts) →
        length (cond (b || c) (t ∷ filter (λ t. p t || q t) ts) (filter (λ t. p t || q t) ts)) ≡ length (cond b (t ∷ filter p ts) (filter p ts)) + length (cond c (t ∷ filter q ts) (filter q ts))
    by_tests true true d rest = absurd (false≢true (sym (d refl)))
    by_tests true false d rest = omega (arith, rest)
    by_tests false true d rest = omega (arith, rest)
    by_tests false false d rest = rest

module _ (g : ℕ → ℕ) (w : ℕ) where
  abbrev lands_on : (c t : ℕ) → Bool
  lands_on c t = list_any (λ k. k == t) (map g (numbers_below c))

  lands_next : (c t : ℕ) → lands_on (c + 1) t ≡ (lands_on c t || (g c == t))
  lands_next c t =
      ap (λ ns. list_any (λ k. k == t) (map g ns)) (below_next c) ∙ ap (list_any (λ k. k == t)) (map-append g (numbers_below c) (c ∷ []))
      ∙ list_any-append (λ k. k == t) (map g (numbers_below c)) (g c ∷ []) ∙ ap (λ b. lands_on c t || b) (or-false (g c == t))

  -- places that are all different
  landing_count : (c : ℕ) → ((i j : ℕ) → i < j → j < c → g i ≢ g j) → ((i : ℕ) → i < c → g i < w) → length (filter (lands_on c) (numbers_below w)) ≡ c
  landing_count zero differ small = ap length (none_pass (numbers_below w))
  landing_count (suc c) differ small =
      let e : suc c ≡ c + 1 = omega arith in
      let alone : lands_on c (g c) ≡ false = none_mapped (λ k. k == g c) g c (λ k l. ne_eqb (g k) (g c) (differ k c l (omega arith))) in
      ap (λ k. length (filter (lands_on k) (numbers_below w))) e
      ∙ ap length (filter_agree (lands_on (c + 1)) (λ t. lands_on c t || (g c == t)) (lands_next c) (numbers_below w))
      ∙ either_passes (lands_on c) (λ t. g c == t) (λ t on. false_from_ne_true (g c == t) (λ here. false≢true (sym alone ∙ ap (lands_on c) (eqb-true (g c) t here) ∙ on))) (numbers_below w)
      ∙ omega (arith, landing_count c (λ i j l m. differ i j l (omega arith)) (λ i l. small i (omega arith)), one_equal (g c) w (small c (omega arith)))

-- ---- the taps of a pin
module _ (count w p : ℕ) (some : 0 < count) (few : count ≤ w) where
  abbrev track_of : ℕ → ℕ
  track_of i = (p + (i * w) / count) % w

  steps_grow : (i j : ℕ) → i < j → (i * w) / count + 1 ≤ (j * w) / count
  steps_grow i j l = (le-div_iff_mul-le some).1 (omega (arith, div-mul-le_self (i * w) count, mul-le-mul_right {m = i + 1} {n = j} w (omega arith)))

  tracks_differ : (i j : ℕ) → i < j → j < count → track_of i ≢ track_of j
  tracks_differ i j l m e =
      let wide : 0 < w = omega arith in
      let within : track_of j < w = omega arith in
      let one = steps_unique w p (track_of j) within ((i * w) / count) (step_below count w i some wide (omega arith)) e in
      let two = steps_unique w p (track_of j) within ((j * w) / count) (step_below count w j some wide m) refl in
      omega (arith, one, two, steps_grow i j l)

  tapped_count : length (filter (λ t. list_any (λ k. k == t) (tracks_by Detailed count w p)) (numbers_below w)) ≡ count
  tapped_count = landing_count track_of w count tracks_differ (λ i l. let wide : 0 < w = omega arith in omega arith)

tapped_by : (mode : Mode) (count w p : ℕ) → mode ≡ Detailed → 0 < count → count ≤ w
    → length (filter (λ t. list_any (λ k. k == t) (tracks_by mode count w p)) (numbers_below (tracks_in mode w))) ≡ count
tapped_by Detailed count w p e some few = tapped_count count w p some few
tapped_by Global count w p e some few = cc

pub tapped_detailed : (f : Fabric) (fc pin : ℕ) → IsFabric f → f.mode ≡ Detailed → length (filter (taps_track f fc pin) (all_tracks f)) ≡ tap_count f.architecture.fc_type fc f.width
unfolding tapped_tracks
tapped_detailed f fc pin l e = tapped_by f.mode (tap_count f.architecture.fc_type fc f.width) f.width pin e (omega arith) (omega (arith, l.some_tracks))

one_by : (mode : Mode) (count w p : ℕ) → mode ≡ Global → length (filter (λ t. list_any (λ k. k == t) (tracks_by mode count w p)) (numbers_below (tracks_in mode w))) ≡ 1
one_by Global count w p e = refl
one_by Detailed count w p e = cc

pub tapped_global : (f : Fabric) (fc pin : ℕ) → f.mode ≡ Global → length (filter (taps_track f fc pin) (all_tracks f)) ≡ 1
unfolding tapped_tracks
tapped_global f fc pin e = one_by f.mode (tap_count f.architecture.fc_type fc f.width) f.width pin e
