-- Bounds of groups by stamps, and boxes that are added, replaced and removed.
use Rattle.std.proofs.Common.{◌≡◌, ℕ, ◌<◌, ◌≤◌, ◌++◌, get_or, List, [], ◌∷◌, All, map, replicate, length, refl, sym, ap, subst, ◌∙◌, arith, slice_set, eq-eqb, false, ◌==◌, Option, Some, None}
use Rattle.std.specs.List.{AllByRecursion, swap_remove}
use Rattle.std.specs.List.Sorted.{IsPermutation}
use Rattle.std.proofs.lemmas.Bool.Decides.{nat_tests}
use Rattle.std.proofs.lemmas.List.{length-map, map-set, map-append, get_or-map}
use Rattle.std.proofs.lemmas.List.Elements.{recursion_from_All, All-weaker}
use Rattle.std.proofs.lemmas.List.Sorted.{IsPermutation-map, IsPermutation-swap_remove}
use Rattle.wave_ground.specs.declared.nearest.Known.{Known}
use Rattle.wave_ground.specs.declared.nearest.SinkBox as kept
use Rattle.wave_ground.specs.kept.Boxes.{SinkBox}
use Rattle.wave_ground.specs.kept.Nearest.{known_of, sink_box}

-- ---- stamps
-- the first so many have the stamp 0
abbrev pub AreOff : List Known → ℕ → Type 0
AreOff ks i = (at : ℕ) (d : Known) → at < i → at < length ks → (get_or ks at d).stamp ≡ 0

pub all_off : (ks : List Known) (i : ℕ) → length ks ≤ i → AreOff ks i → All (λ k. k.stamp ≡ 0) ks
all_off ks i all off at d lt = off at d (omega (arith, lt, all)) lt

pub off_old : (now : ℕ) (ks : List Known) → All (λ k. k.stamp ≡ 0) ks → All (λ k. k.stamp ≤ now) ks
off_old now ks off = All-weaker (λ (k : Known). k.stamp ≡ 0) (λ (k : Known). k.stamp ≤ now) (λ k e. omega (arith, e)) ks off

unknown : (now later : ℕ) (k : Known) → now < later → k.stamp ≤ now → known_of later k ≡ None
unknown now later k up old = let other : (k.stamp == later) ≡ false = grind (arith, nat_tests) in rw other refl

all_unknown : (now later : ℕ) (ks : List Known) → now < later → AllByRecursion (λ k. k.stamp ≤ now) ks → map (known_of later) ks ≡ replicate (length ks) None
all_unknown now later [] up old = refl
all_unknown now later (k ∷ ks) up (first, rest) = rw (unknown now later k up first, all_unknown now later ks up rest) refl

-- at a later stamp no bound is known
pub none_known : (now later count : ℕ) (ks : List Known) → now < later → All (λ k. k.stamp ≤ now) ks → length ks ≡ count → map (known_of later) ks ≡ replicate count None
none_known now later count ks up old size = all_unknown now later ks up (recursion_from_All _ _ old) ∙ ap (λ n. replicate n None) size

-- a kept bound is known
pub known_put : (now : ℕ) (ks : List Known) (known : List (Option ℕ)) (group : ℕ) (k : Known) → k.stamp ≡ now → map (known_of now) ks ≡ known → map (known_of now) (slice_set ks group k) ≡ slice_set known group (Some k.sight.wires)
known_put now ks known group k at e = map-set (known_of now) ks group k ∙ rw (e, at, eq-eqb now now refl) refl

-- ---- boxes
module _ (boxes : List kept.SinkBox) (b : kept.SinkBox) where
  -- one box added
  pub pushed_box : (now : List kept.SinkBox) (old : List SinkBox) → map sink_box boxes ≡ old → now ≡ boxes ++ b ∷ [] → map sink_box now ≡ old ++ sink_box b ∷ []
  pushed_box now old is more = rw more (map-append sink_box boxes (b ∷ []) ∙ ap (λ bs. bs ++ sink_box b ∷ []) is)

  -- one box replaced
  pub box_put : (old : List SinkBox) (at : ℕ) → map sink_box boxes ≡ old → map sink_box (slice_set boxes at b) ≡ slice_set old at (sink_box b)
  box_put old at is = map-set sink_box boxes at b ∙ ap (λ bs. slice_set bs at (sink_box b)) is

  module _ (old : List SinkBox) (at : ℕ) (is : map sink_box boxes ≡ old) (lt : at < length old) (found : b ≡ get_or boxes at b) where
    within : at < length boxes
    within = let size = length-map boxes sink_box in let same = ap length is in omega (arith, size, same, lt)

    pub box_found : sink_box b ≡ get_or old at (sink_box b)
    box_found = ap sink_box found ∙ sym (get_or-map sink_box boxes at b (sink_box b) within) ∙ ap (λ bs. get_or bs at (sink_box b)) is

    -- one box removed
    pub box_gone : (now : List kept.SinkBox) → now ≡ swap_remove boxes at b → IsPermutation old (sink_box b ∷ map sink_box now)
    box_gone now left = subst (λ bs. IsPermutation bs (sink_box b ∷ map sink_box now)) is (rw left (IsPermutation-map sink_box boxes (b ∷ swap_remove boxes at b) (IsPermutation-swap_remove boxes at b within found)))
