-- Views as pairs of two lists: how many nets use each node, and the histories.
use Rattle.std.proofs.Common.{◌≡◌, ◌∙◌, ◌<◌, ◌≤◌, ℕ, zero, suc, inl, inr, List, [], ◌∷◌, length, get_or, set, replicate, refl, ap, arith}
use Rattle.std.specs.List.{zip}
use Rattle.std.specs.List.{All}
use Rattle.std.proofs.lemmas.Bool.{cases_lt}
use Rattle.std.proofs.lemmas.List.{get_or_past, get_or-set_same, set-set}
use Rattle.node_cost.specs.Views.{others_in, history_in, NetView}

pub length_seen : (others histories : List ℕ) → length histories ≡ length others → length (zip others histories) ≡ length others
length_seen [] hs e = refl
length_seen (o ∷ os) [] e = absurd (omega (arith, e))
length_seen (o ∷ os) (h ∷ hs) e = let rest = length_seen os hs (omega (arith, e)) in omega (arith, rest)

pub others_at : (others histories : List ℕ) (a : ℕ) → length histories ≡ length others → others_in (zip others histories) a ≡ get_or others a 0
others_at [] hs a e = refl
others_at (o ∷ os) [] a e = absurd (omega (arith, e))
others_at (o ∷ os) (h ∷ hs) zero e = refl
others_at (o ∷ os) (h ∷ hs) (suc a) e = others_at os hs a (omega (arith, e))

pub history_at : (others histories : List ℕ) (a : ℕ) → length histories ≡ length others → history_in (zip others histories) a ≡ get_or histories a 0
history_at [] [] a e = refl
history_at [] (h ∷ hs) a e = absurd (omega (arith, e))
history_at (o ∷ os) [] a e = absurd (omega (arith, e))
history_at (o ∷ os) (h ∷ hs) zero e = refl
history_at (o ∷ os) (h ∷ hs) (suc a) e = history_at os hs a (omega (arith, e))

-- a view of nodes without nets and histories
pub none_seen : (nodes : ℕ) → zip {K = ℕ} {X = ℕ} (replicate nodes 0) (replicate nodes 0) ≡ replicate nodes (0, 0)
none_seen zero = refl
none_seen (suc n) = ap (λ (seen : NetView). (0, 0) ∷ seen) (none_seen n)

pub seen_set : (others histories : List ℕ) (a count history : ℕ) →
    zip (set others a count) (set histories a history) ≡ set (zip others histories) a (count, history)
seen_set [] hs a n h = refl
seen_set (o ∷ os) [] zero n h = refl
seen_set (o ∷ os) [] (suc a) n h = refl
seen_set (o ∷ os) (x ∷ hs) zero n h = refl
seen_set (o ∷ os) (x ∷ hs) (suc a) n h = ap (λ seen. (o, x) ∷ seen) (seen_set os hs a n h)

-- another number of nets uses a node, and its history stays
pub left_out : (others histories : List ℕ) (a count : ℕ) → length histories ≡ length others →
    zip (set others a count) histories ≡ set (zip others histories) a (count, history_in (zip others histories) a)
left_out [] hs a n e = refl
left_out (o ∷ os) [] a n e = absurd (omega (arith, e))
left_out (o ∷ os) (h ∷ hs) zero n e = refl
left_out (o ∷ os) (h ∷ hs) (suc a) n e = ap (λ seen. (o, h) ∷ seen) (left_out os hs a n (omega (arith, e)))

-- a node has another history, and as many nets use it
pub history_set : (others histories : List ℕ) (a history : ℕ) → length histories ≡ length others →
    zip others (set histories a history) ≡ set (zip others histories) a (others_in (zip others histories) a, history)
history_set [] [] a h e = refl
history_set [] (x ∷ hs) a h e = absurd (omega (arith, e))
history_set (o ∷ os) [] a h e = absurd (omega (arith, e))
history_set (o ∷ os) (x ∷ hs) zero h e = refl
history_set (o ∷ os) (x ∷ hs) (suc a) h e = ap (λ seen. (o, x) ∷ seen) (history_set os hs a h (omega (arith, e)))

-- first the number of nets is set, then the history
pub both_set : (view : NetView) (a others history : ℕ) → a < length view →
    set (set view a (others, history_in view a)) a (others_in (set view a (others, history_in view a)) a, history) ≡ set view a (others, history)
both_set view a others history there =
    ap (λ (o : ℕ). set (set view a (others, history_in view a)) a (o, history)) (ap (λ (p : ℕ × ℕ). p.0) (get_or-set_same view a (others, history_in view a) (0, 0) there))
    ∙ set-set view a (others, history_in view a) (others, history)

pub others_bounded : (others histories : List ℕ) → length histories ≡ length others → All (λ n. n ≤ 65535) others → (a : ℕ) → others_in (zip others histories) a ≤ 65535
others_bounded others histories e all a =
    let here = others_at others histories a e in
    elim (cases_lt a (length others)) [
      | inl l ↦ let few = all a 0 l in omega (arith, here, few)
      | inr past ↦ let none = get_or_past others a 0 past in omega (arith, here, none)
    ]
