-- Ways along pairs that hang on earlier ones: the source reaches where each pair ends.
use Rattle.std.proofs.Common.{◌≡◌, ℕ, ◌<◌, ◌⊎◌, ◌==◌, zero, suc, List, length, get_or, inl, inr, refl, subst, arith}
use Rattle.std.specs.Prelude.{Contains, take}
use Rattle.std.proofs.lemmas.Bool.{eqb-true, or_cases}
use Rattle.route_tree.specs.Paths.{Pair, Path, ends_of}
use Rattle.route_tree.specs.Paths.Path.{here, along}
use Rattle.route_tree.specs.Legality.{is_among}
use Rattle.route_tree.specs.kept.Ladder.{HangOnEarlier}
use Rattle.route_tree.proofs.Members.{EndsBefore, ends_before, pair_among}

-- one pair more
pub step_on : (pairs : List Pair) (c : ℕ) {a b : ℕ} → Path pairs a b → Contains pairs (b, c) → Path pairs a c
step_on pairs c (here a) h = along a c c h (here c)
step_on pairs c (along a b d g way) h = along a b c g (step_on pairs c way h)

-- one way after another
pub way_on : (pairs : List Pair) (c : ℕ) {a b : ℕ} → Path pairs a b → Path pairs b c → Path pairs a c
way_on pairs c (here a) on = on
way_on pairs c (along a b d g way) on = along a b c g (way_on pairs c way on)

-- the last pair of a way that ends at node b
pub record LastPair (pairs : List Pair) (a b : ℕ) : Type 0 where
  pub begin : ℕ
  pub there : Contains pairs (begin, b)
  pub before : Path pairs a begin

-- a way is empty, or has a last pair
pub last_step : (pairs : List Pair) {a b : ℕ} → Path pairs a b → (a ≡ b) ⊎ LastPair pairs a b
last_step pairs (here a) = inl refl
last_step pairs (along a b c h way) = elim (last_step pairs way) [
  | inl same ↦ inr (record { begin = a; there = subst (λ d. Contains pairs (a, d)) same h; before = here a })
  | inr last ↦ inr (record { begin = last.begin; there = last.there; before = along a b last.begin h last.before })
]

module _ (source : ℕ) (pairs : List Pair) (hang : HangOnEarlier source pairs) where
  -- where pair k begins: at the source, or where an earlier one ends
  pub begins : (k : ℕ) → k < length pairs → (source ≡ (get_or pairs k (0, 0)).0) ⊎ EndsBefore pairs k (get_or pairs k (0, 0)).0
  begins k l = elim (or_cases (source == (get_or pairs k (0, 0)).0) (is_among (ends_of (take k pairs)) (get_or pairs k (0, 0)).0) (hang k l)) [
    | inl e ↦ inl (eqb-true source (get_or pairs k (0, 0)).0 e)
    | inr e ↦ inr (ends_before pairs k (get_or pairs k (0, 0)).0 l e)
  ]

  over : (k : ℕ) → k < length pairs → Path pairs source (get_or pairs k (0, 0)).0 → Path pairs source (get_or pairs k (0, 0)).1
  over k l way = step_on pairs (get_or pairs k (0, 0)).1 way (pair_among pairs k l)

  reached_below : (n k : ℕ) → k < n → k < length pairs → Path pairs source (get_or pairs k (0, 0)).1
  reached_below zero k low l = absurd (omega arith)
  reached_below (suc n) k low l = over k l (elim (begins k l) [
    | inl e ↦ subst (Path pairs source) e (here source)
    | inr b ↦ subst (Path pairs source) b.end (reached_below n b.place (let early = b.before in omega arith) (let early = b.before in omega arith))
  ])

  pub reached : (k : ℕ) → k < length pairs → Path pairs source (get_or pairs k (0, 0)).1
  reached k l = reached_below (suc k) k (omega arith) l
