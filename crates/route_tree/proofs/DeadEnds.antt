-- From the last pair of a tree to the first: what is marked are the sinks and the beginnings of the
-- pairs after.
use Rattle.std.proofs.Common.{◌≡◌, ℕ, ◌+◌, ◌<◌, ◌==◌, zero, suc, inl, inr, Bool, true, false, not, ◌||◌, List, [], ◌∷◌, length, drop, get_or, set, sym, ap, ◌∙◌, subst}
use Rattle.std.specs.List.{list_any}
use Rattle.std.proofs.lemmas.Bool.{or_left, or_right, or_from, cases_Bool, false≢true, eq-eqb, eqb-true}
use Rattle.std.proofs.lemmas.List.{drop_more, get_or-set_same, get_or-set_other}
use Rattle.route_tree.specs.Paths.{Pair}
use Rattle.route_tree.specs.Legality.{is_among}
use Rattle.route_tree.specs.kept.Ladder.{has_dead_end}

-- just the sinks are marked, and where these pairs begin
abbrev pub AreAfter : List Bool → List ℕ → List Pair → Type 0
AreAfter flags sinks pairs = (a : ℕ) → get_or flags a false ≡ (is_among sinks a || list_any (λ q. q.0 == a) pairs)

-- one more pair in front
pub alive_marks : (flags : List Bool) (sinks : List ℕ) (pairs : List Pair) (i : ℕ) → i < length pairs → AreAfter flags sinks (drop (i + 1) pairs) → (get_or pairs i (0, 0)).0 < length flags → AreAfter (set flags (get_or pairs i (0, 0)).0 true) sinks (drop i pairs)
alive_marks flags sinks pairs i l m below a =
    let p = get_or pairs i (0, 0) in
    let later = list_any (λ q. q.0 == a) (drop (i + 1) pairs) in
    let all : list_any (λ q. q.0 == a) (drop i pairs) ≡ (p.0 == a || later) = ap (list_any (λ q. q.0 == a)) (drop_more pairs i (0, 0) l) in
    elim (cases_Bool (p.0 == a)) [
      | inl this ↦
          let e = eqb-true p.0 a this in
          subst (λ k. get_or (set flags p.0 true) k false ≡ true) e (get_or-set_same flags p.0 true false below)
          ∙ sym (or_right (is_among sinks a) (list_any (λ q. q.0 == a) (drop i pairs)) (all ∙ or_left (p.0 == a) later this))
      | inr other ↦
          get_or-set_other flags p.0 a true false (λ e. absurd (false≢true (sym other ∙ eq-eqb p.0 a (sym e)))) ∙ m a
          ∙ ap (λ b. is_among sinks a || b) (sym (all ∙ ap (λ b. b || later) other))
    ]

-- an end that is marked is no dead end
pub alive : (flags : List Bool) (sinks : List ℕ) (pairs : List Pair) (i : ℕ) → i < length pairs → AreAfter flags sinks (drop (i + 1) pairs) → has_dead_end sinks (drop (i + 1) pairs) ≡ false → get_or flags (get_or pairs i (0, 0)).1 false ≡ true → has_dead_end sinks (drop i pairs) ≡ false
alive flags sinks pairs i l m h e =
    let p = get_or pairs i (0, 0) in
    ap (has_dead_end sinks) (drop_more pairs i (0, 0) l)
    ∙ or_from (not (is_among sinks p.1 || list_any (λ q. q.0 == p.1) (drop (i + 1) pairs))) (has_dead_end sinks (drop (i + 1) pairs)) (ap not (sym (m p.1) ∙ e)) h

-- what has a dead end after has one
later_dead : (sinks : List ℕ) (pairs : List Pair) (i : ℕ) → has_dead_end sinks (drop i pairs) ≡ true → has_dead_end sinks pairs ≡ true
later_dead sinks pairs zero h = h
later_dead sinks [] (suc i) h = h
later_dead sinks (p ∷ ps) (suc i) h =
    or_right (not (is_among sinks p.1 || list_any (λ q. q.0 == p.1) ps)) (has_dead_end sinks ps) (later_dead sinks ps i h)

-- one that isn't is one
pub dead : (flags : List Bool) (sinks : List ℕ) (pairs : List Pair) (i : ℕ) → i < length pairs → AreAfter flags sinks (drop (i + 1) pairs) → get_or flags (get_or pairs i (0, 0)).1 false ≡ false → has_dead_end sinks pairs ≡ true
dead flags sinks pairs i l m e =
    let p = get_or pairs i (0, 0) in
    later_dead sinks pairs i (ap (has_dead_end sinks) (drop_more pairs i (0, 0) l)
    ∙ or_left (not (is_among sinks p.1 || list_any (λ q. q.0 == p.1) (drop (i + 1) pairs))) (has_dead_end sinks (drop (i + 1) pairs)) (ap not (sym (m p.1) ∙ e)))
