-- Tracks that are tapped.
use Rattle.std.proofs.Common.{◌≡◌, ℕ, zero, suc, ◌+◌, ◌<◌, ◌≤◌, Bool, true, List, [], ◌∷◌, length, get_or, inl, inr, refl, sym, ap, ◌∙◌, subst, arith}
use Rattle.std.specs.Prelude.{◌||◌, ◌&&◌}
use Rattle.std.specs.List.{list_any}
use Rattle.std.specs.Int.{bit_at}
use Rattle.std.specs.Int.Bits.{bit_and}
use Rattle.std.proofs.lemmas.Bool.{cases_lt, eq-eqb, or_right}
use Rattle.std.proofs.lemmas.List.{get_or_default}
use Rattle.std.proofs.lemmas.List.Elements.{All-get_or}
use Rattle.std.proofs.lemmas.Nat.Bits.{bit_at-lt, bit_at-zero, bit_at_and}
use Rattle.track_groups.specs.declared.group.Group.{Group}
use Rattle.track_groups.specs.declared.group.Tap.{Tap}
use Rattle.track_groups.specs.Groups.{group_at, node_on, on_track, wire_on}
use Rattle.track_groups.specs.Joints.{IsTap, tap_on, taps_of, taps_track}
use Rattle.wavefront.specs.Space.{IsInside}
use Rattle.wave_ground.specs.kept.Grounds.{Ground, IsGround, groups_of}
use Rattle.wave_queue.specs.kept.Queues.{Waiting}
use Rattle.group_wave.specs.kept.WaveState.{Wave}
use Rattle.group_wave.specs.kept.Wave.{WentOn}
use Rattle.group_wave.specs.kept.Steps.{IsTapOf, Spreads, TookTap, TookTaps}
use Rattle.group_wave.proofs.Lower.{went_lower}

pub no_both : (a b j : ℕ) → bit_and a b ≡ 0 → bit_at a j ≡ 1 → bit_at b j ≡ 1 → ⊥
no_both a b j none one two =
    let both = bit_at_and a b j in
    let zeros = ap (λ n. bit_at n j) none in
    let zero_bit = bit_at-zero j in
    omega (arith, both, zeros, zero_bit, one, two)

pub first_one : (a b j : ℕ) → bit_at (bit_and a b) j ≡ 1 → bit_at a j ≡ 1
first_one a b j one = let both = bit_at_and a b j in let few = bit_at-lt a j in omega (arith, both, few, one)

pub second_one : (a b j : ℕ) → bit_at (bit_and a b) j ≡ 1 → bit_at b j ≡ 1
second_one a b j one = let both = bit_at_and a b j in let few = bit_at-lt b j in omega (arith, both, few, one)

any_at : (test : Tap → Bool) (ts : List Tap) (k : ℕ) (d : Tap) → k < length ts → test (get_or ts k d) ≡ true → list_any test ts ≡ true
any_at test [] k d lt e = absurd (omega (arith, lt))
any_at test (t ∷ ts) zero d lt e = subst (λ b. (b || list_any test ts) ≡ true) (sym e) refl
any_at test (t ∷ ts) (suc k) d lt e = or_right (test t) (list_any test ts) (any_at test ts k d (omega (arith, lt)) e)

both_so : (a b : Bool) → a ≡ true → b ≡ true → (a && b) ≡ true
both_so a b ea eb = rw (ea, eb) refl

on_tap : (ts : List Tap) (k j : ℕ) (d : Tap) → k < length ts → bit_at (get_or ts k d).tracks j ≡ 1 → tap_on ts (get_or ts k d).pin j ≡ true
unfolding tap_on
on_tap ts k j d lt one = any_at (taps_track (get_or ts k d).pin j) ts k d lt (both_so _ _ (eq-eqb _ _ refl) (eq-eqb _ _ one))

-- what the tables tell of a group's tap
pub tap_told : (g : Ground) → IsGround g → (group k : ℕ) (d : Tap) → k < length (taps_of g.tables group) → IsTapOf g group (get_or (taps_of g.tables group) k d)
tap_told g ok group k d lt =
    let joined = ok.tabled.joined group in
    let pin = All-get_or (IsTap g.space.device) (taps_of g.tables group) k d lt joined.taps in
    record {
      pin = pin;
      edges = λ j on one. joined.pins j on (get_or (taps_of g.tables group) k d).pin pin.kind ∙ on_tap (taps_of g.tables group) k j d lt one;
    }

-- a node of a track is its wire
pub on_wire : (g : Ground) (group : Group) (number j : ℕ) → group ≡ group_at (groups_of g) number → node_on group j ≡ wire_on (groups_of g) (on_track number j)
on_wire g group number j e = ap (λ (x : Group). node_on x j) e

-- one pin more was offered the way
pub took_more : (g : Ground) (s t : Wave) (e : Waiting) (taps : List Tap) (i : ℕ) (d : Tap) → TookTaps g s e taps i → Spreads g s t → TookTap g t e (get_or taps i d) → TookTaps g t e taps (i + 1)
took_more g s t e taps i d took spreads new k c less lt j one two inside = elim (cases_lt k i) [
  | inl before ↦ went_lower g s t (λ v. ⊥) e.label (get_or taps k c).pin spreads.lowers (took k c before lt j one two inside)
  | inr after ↦
      let at : k ≡ i = omega (arith, less, after) in
      let same : get_or taps k c ≡ get_or taps i d = get_or_default taps k c d lt ∙ ap (λ n. get_or taps n d) at in
      subst (λ (x : Tap). WentOn g t e.label x.pin) (sym same) (new j one (subst (λ (x : Tap). bit_at x.tracks j ≡ 1) same two) (subst (λ (x : Tap). IsInside g.space x.pin) same inside))
]

pub took_all : (g : Ground) (s : Wave) (e : Waiting) (taps : List Tap) (i : ℕ) → length taps ≤ i → TookTaps g s e taps i → TookTaps g s e taps (length taps)
took_all g s e taps i all took k d less lt = took k d (omega (arith, lt, all)) lt
