-- Each pair joins the source to a sink exactly where none has a dead end, where no node is reached
-- twice.
use Rattle.std.proofs.Common.{◌≡◌, ◌≢◌, ℕ, ◌<◌, ◌≤◌, ◌==◌, zero, suc, true, false, not, ◌||◌, List, [], ◌∷◌, length, get_or, All, inl, inr, refl, sym, ◌∙◌, subst, arith}
use Rattle.std.specs.Prelude.{Contains}
use Rattle.std.specs.List.{list_any}
use Rattle.std.proofs.lemmas.Bool.{both_ways, cases_lt, eqb-true, eq-eqb, not-false, not-true, or_cases, or_parts}
use Rattle.std.proofs.lemmas.List.Elements.{All-contains, All-contains_itself, All-from_get_or, All-get_or, All-tail}
use Rattle.std.proofs.lemmas.List.Folds.{list_any_at}
use Rattle.std.proofs.lemmas.List.{length-map}
use Rattle.routing_problem.specs.Problems.{Net}
use Rattle.route_tree.specs.Paths.{Pair, Path, ends_of}
use Rattle.route_tree.specs.Paths.Path.{here, along}
use Rattle.route_tree.specs.Legality.{is_among, LeadsToSink, IsJoined}
use Rattle.route_tree.specs.Faults.{reaches_twice}
use Rattle.route_tree.specs.kept.Ladder.{HangOnEarlier, has_dead_end}
use Rattle.route_tree.proofs.Members.{among_contains, contains_among, end_at, once_each, some_place}
use Rattle.route_tree.proofs.Ways.{begins, reached}

-- ---- without a dead end
module _ (n : Net) (pairs : List Pair) where
  at_sink : (a : ℕ) → is_among n.sinks a ≡ true → LeadsToSink n pairs a
  at_sink a e = (a, among_contains n.sinks a e, here a)

  -- by a pair of a list whose pairs lead on
  by_pair : (ps : List Pair) (a : ℕ) → All (Contains pairs) ps →
      ((k : ℕ) → k < length ps → LeadsToSink n pairs (get_or ps k (0, 0)).1) → list_any (λ q. q.0 == a) ps ≡ true → LeadsToSink n pairs a
  by_pair ps a kept leads e =
      let found = some_place (λ (q : Pair). q.0 == a) ps (0, 0) e in
      let q = get_or ps found.0 (0, 0) in
      let way = leads found.0 found.1 in
      (way.0, way.1, subst (λ b. Path pairs b way.0) (eqb-true q.0 a found.2) (along q.0 q.1 way.0 (kept found.0 (0, 0) found.1) way.2))

  behind : (ps : List Pair) → All (Contains pairs) ps → has_dead_end n.sinks ps ≡ false →
      (k : ℕ) → k < length ps → LeadsToSink n pairs (get_or ps k (0, 0)).1
  behind [] kept none k l = absurd (omega arith)
  behind (p ∷ ps) kept none zero l =
      let later = list_any (λ (q : Pair). q.0 == p.1) ps in
      let parts = or_parts (not (is_among n.sinks p.1 || later)) (has_dead_end n.sinks ps) none in
      elim (or_cases (is_among n.sinks p.1) later (not-false (is_among n.sinks p.1 || later) parts.0)) [
        | inl e ↦ at_sink p.1 e
        | inr e ↦ by_pair ps p.1 (All-tail (Contains pairs) p ps kept) (behind ps (All-tail (Contains pairs) p ps kept) parts.1) e
      ]
  behind (p ∷ ps) kept none (suc k) l =
      behind ps (All-tail (Contains pairs) p ps kept)
      (or_parts (not (is_among n.sinks p.1 || list_any (λ q. q.0 == p.1) ps)) (has_dead_end n.sinks ps) none).1 k (omega arith)

  pub all_joined : HangOnEarlier n.source pairs → has_dead_end n.sinks pairs ≡ false → All (IsJoined n pairs) pairs
  all_joined hang none =
      All-from_get_or (IsJoined n pairs) pairs (0, 0)
      (λ k l. record { from_source = reached n.source pairs hang k l; to_sink = behind pairs (All-contains_itself pairs) none k l })

-- ---- with a dead end
-- pair k ends in no sink, and no later pair begins there
record Stuck (sinks : List ℕ) (ps : List Pair) : Type 0 where
  place : ℕ
  within : place < length ps
  no_sink : is_among sinks (get_or ps place (0, 0)).1 ≡ false
  no_later : (j : ℕ) → place < j → j < length ps → (get_or ps j (0, 0)).0 ≢ (get_or ps place (0, 0)).1

stuck : (sinks : List ℕ) (ps : List Pair) → has_dead_end sinks ps ≡ true → Stuck sinks ps
stuck sinks [] e = absurd (both_ways false refl e)
stuck sinks (p ∷ ps) e = elim (or_cases (not (is_among sinks p.1 || list_any (λ q. q.0 == p.1) ps)) (has_dead_end sinks ps) e) [
  | inl h ↦ (
      let none = or_parts (is_among sinks p.1) (list_any (λ q. q.0 == p.1) ps) (not-true (is_among sinks p.1 || list_any (λ q. q.0 == p.1) ps) h) in
      record { place = zero; within = omega arith; no_sink = none.0; no_later = none_begins p.1 p ps none.1 })
  | inr h ↦ (
      let s = stuck sinks ps h in
      record {
        place = suc s.place;
        within = (let l = s.within in omega arith);
        no_sink = s.no_sink;
        no_later = elim [ zero ↦ λ low high. absurd (omega arith) | suc j ↦ λ low high. s.no_later j (omega arith) (omega arith) ];
      })
]
  where
    none_begins : (a : ℕ) (p : Pair) (ps : List Pair) → list_any (λ q. q.0 == a) ps ≡ false →
        (j : ℕ) → zero < j → j < length (p ∷ ps) → (get_or (p ∷ ps) j (0, 0)).0 ≢ a
    none_begins a p ps none zero low high = absurd (omega arith)
    none_begins a p ps none (suc j) low high = λ same.
        both_ways (list_any (λ q. q.0 == a) ps) none
        (list_any_at (λ q. q.0 == a) ps j (0, 0) (omega arith) (eq-eqb (get_or ps j (0, 0)).0 a same))

module _ (n : Net) (pairs : List Pair) (hang : HangOnEarlier n.source pairs) (once : reaches_twice n.source pairs ≡ false) where
  -- where an earlier pair begins, or this one: not where pair k ends
  no_earlier : (k j : ℕ) → k < length pairs → j ≤ k → (get_or pairs j (0, 0)).0 ≢ (get_or pairs k (0, 0)).1
  no_earlier k j l le = λ same.
      let nodes = n.source ∷ ends_of pairs in
      let high : suc k < length nodes = omega (arith, length-map pairs (λ p. p.1)) in
      elim (begins n.source pairs hang j (omega arith)) [
        | inl e ↦ once_each nodes zero (suc k) once (omega arith) high (e ∙ same ∙ sym (end_at pairs k l))
        | inr b ↦ (
            let early : b.place < k = let h = b.before in omega arith in
            once_each nodes (suc b.place) (suc k) once (omega arith) high
            (end_at pairs b.place (omega arith) ∙ b.end ∙ same ∙ sym (end_at pairs k l)))
      ]

  stays : (s : Stuck n.sinks pairs) (j : ℕ) → j < length pairs → (get_or pairs j (0, 0)).0 ≢ (get_or pairs s.place (0, 0)).1
  stays s j l = elim (cases_lt s.place j) [
    | inl later ↦ s.no_later j later l
    | inr before ↦ no_earlier s.place j s.within before
  ]

  nowhere : (a s : ℕ) → All (λ q. q.0 ≢ a) pairs → is_among n.sinks a ≡ false → Contains n.sinks s → Path pairs a s → ⊥
  nowhere a s none no_sink sink (here _) = both_ways (is_among n.sinks a) no_sink (contains_among n.sinks a sink)
  nowhere a s none no_sink sink (along _ b _ h way) = All-contains (λ q. q.0 ≢ a) pairs (a, b) none h refl

  pub not_all_joined : has_dead_end n.sinks pairs ≡ true → All (IsJoined n pairs) pairs → ⊥
  not_all_joined e joined =
      let s = stuck n.sinks pairs e in
      let end = (get_or pairs s.place (0, 0)).1 in
      let way = (All-get_or (IsJoined n pairs) pairs s.place (0, 0) s.within joined).to_sink in
      nowhere end way.0 (All-from_get_or (λ q. q.0 ≢ end) pairs (0, 0) (stays s)) s.no_sink way.1 way.2
