-- Pairs in order, the last of which ends in a sink: each of them is on a way to a sink.
use Rattle.std.proofs.Common.{◌≡◌, ℕ, ◌+◌, ◌-◌, ◌≤◌, ◌==◌, zero, suc, Bool, true, false, not, ◌&&◌, ◌||◌, List, [], ◌∷◌, length, All, inl, inr, refl, sym, ap, ap₂, ◌∙◌, arith}
use Rattle.std.specs.List.{list_any}
use Rattle.std.proofs.lemmas.Bool.{and_parts, eqb-true, eq-eqb, not-false, or_cases, or_left, or_parts, or_right}
use Rattle.routing_problem.specs.Fabric.{Fabric}
use Rattle.routing_problem.specs.Problems.{is_sink}
use Rattle.route_tree.specs.Paths.{Pair}
use Rattle.route_tree.specs.Legality.{is_among, IsJoined, may_begin, is_listed_after, is_listed}
use Rattle.route_tree.specs.Faults.{has_foreign_sink}
use Rattle.route_tree.specs.kept.Ladder.{has_dead_end}
use Rattle.route_tree.proofs.Joined.{all_joined}
use Rattle.route_tree.proofs.Listings.{listed_hang}
use Rattle.route_check.specs.kept.Ends.{end_in}
use Rattle.route_check.specs.kept.Judged.{net_of}
use Rattle.route_check.specs.kept.Listed.{ends_in_sink}

no_stub : (a b : Bool) → (a || b) ≡ true → (rest : Bool) → rest ≡ false → (not (a || b) || rest) ≡ false
no_stub a b e rest none = ap₂ (λ x y. not x || y) e none

module _ (f : Fabric) (sinks : List ℕ) where
  -- where a pair of the net ends, a sink of the device is one of the net's
  own_sink : (a : ℕ) → (is_sink f a && not (is_among sinks a)) ≡ false → is_sink f a ≡ true → is_among sinks a ≡ true
  own_sink a own sink = not-false (is_among sinks a) (sym (ap (λ b. b && not (is_among sinks a)) sink) ∙ own)

  leads_on : (source : ℕ) (earlier : List ℕ) (p q : Pair) (ps : List Pair) → may_begin f source (p.1 ∷ earlier) q.0 ≡ true →
      (is_sink f p.1 && not (is_among sinks p.1)) ≡ false → (is_among sinks p.1 || list_any (λ r. r.0 == p.1) (q ∷ ps)) ≡ true
  leads_on source earlier p q ps begins own = elim (or_cases (p.1 == q.0) (is_sink f p.1 && is_among (source ∷ p.1 ∷ earlier) q.0) begins) [
    | inl on ↦
        or_right (is_among sinks p.1) (list_any (λ r. r.0 == p.1) (q ∷ ps))
        (or_left (q.0 == p.1) (list_any (λ r. r.0 == p.1) ps) (eq-eqb q.0 p.1 (sym (eqb-true p.1 q.0 on))))
    | inr sink ↦
        or_left (is_among sinks p.1) (list_any (λ r. r.0 == p.1) (q ∷ ps))
        (own_sink p.1 own (and_parts (is_sink f p.1) (is_among (source ∷ p.1 ∷ earlier) q.0) sink).0)
  ]

  no_dead_end : (source : ℕ) (earlier : List ℕ) (pairs : List Pair) (last : ℕ) → last + 1 ≡ length pairs →
      is_listed_after f source earlier pairs ≡ true → has_foreign_sink f sinks pairs ≡ false → is_sink f (end_in pairs last) ≡ true →
      has_dead_end sinks pairs ≡ false
  no_dead_end source earlier [] last at listed own sink = refl
  no_dead_end source earlier (p ∷ []) zero at listed own sink =
      let here = (or_parts (is_sink f p.1 && not (is_among sinks p.1)) false own).0 in
      no_stub (is_among sinks p.1) false (or_left (is_among sinks p.1) false (own_sink p.1 here sink)) false refl
  no_dead_end source earlier (p ∷ []) (suc last) at listed own sink = absurd (omega (arith, at))
  no_dead_end source earlier (p ∷ q ∷ ps) zero at listed own sink = absurd (omega (arith, at))
  no_dead_end source earlier (p ∷ q ∷ ps) (suc last) at listed own sink =
      let rest = is_listed_after f source (q.1 ∷ p.1 ∷ earlier) ps in
      let later = (and_parts (may_begin f source earlier p.0) (may_begin f source (p.1 ∷ earlier) q.0 && rest) listed).1 in
      let begins = (and_parts (may_begin f source (p.1 ∷ earlier) q.0) rest later).0 in
      let parts = or_parts (is_sink f p.1 && not (is_among sinks p.1)) (has_foreign_sink f sinks (q ∷ ps)) own in
      no_stub (is_among sinks p.1) (list_any (λ r. r.0 == p.1) (q ∷ ps)) (leads_on source earlier p q ps begins parts.0)
      (has_dead_end sinks (q ∷ ps)) (no_dead_end source (p.1 ∷ earlier) (q ∷ ps) last (omega (arith, at)) later parts.1 sink)

pub joined_in_order : (f : Fabric) (source : ℕ) (sinks : List ℕ) (pairs : List Pair) → is_listed f (net_of source sinks) pairs ≡ true →
    has_foreign_sink f sinks pairs ≡ false → 1 ≤ length pairs → ends_in_sink f pairs ≡ true → All (IsJoined (net_of source sinks) pairs) pairs
unfolding is_listed
joined_in_order f source sinks pairs listed own some sink =
    all_joined (net_of source sinks) pairs (listed_hang f (net_of source sinks) pairs listed)
    (no_dead_end f sinks source [] pairs (length pairs - 1) (omega (arith, some)) listed own sink)
