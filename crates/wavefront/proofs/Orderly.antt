-- What is grown of ways is in the order in which routings are written.
use Rattle.std.proofs.Common.{◌≡◌, ℕ, List, [], ◌∷◌, ◌++◌, ◌==◌, ◌&&◌, true, false, Bool, Contains, ◌⊎◌, inl, inr, refl, sym, ap, ap₂, ◌∙◌}
use Rattle.std.proofs.lemmas.Bool.{false≢true, eq-eqb, or_left, or_right}
use Rattle.routing_problem.specs.Fabric.{Fabric}
use Rattle.routing_problem.specs.Problems.{is_sink}
use Rattle.route_tree.specs.Paths.{Pair, ends_of}
use Rattle.route_tree.specs.Legality.{is_among, may_begin, is_listed_after, is_listed}
use Rattle.route_tree.specs.Rows.{pairs_along}
use Rattle.wavefront.specs.Space.{Space}
use Rattle.wavefront.specs.kept.Spaces.{IsSpace}
use Rattle.wavefront.specs.Ways.{IsWay}
use Rattle.wavefront.specs.Growth.{IsGrown}
use Rattle.wavefront.specs.Growth.IsGrown.{alone, grown}
use Rattle.wavefront.proofs.Grown.{with_sinks}
use Rattle.wavefront.proofs.Lists.{contains_none, contains_cases}

-- the ends of pairs after earlier ones, the last one first
abbrev ends_after : List ℕ → List Pair → List ℕ
ends_after earlier [] = earlier
ends_after earlier (p ∷ ps) = ends_after (p.1 ∷ earlier) ps

-- the last of them is a sink
abbrev EndsInSink : Fabric → List ℕ → Type 0
EndsInSink f [] = Unit {0}
EndsInSink f (e ∷ es) = is_sink f e ≡ true

and_assoc : (a b c : Bool) → (a && (b && c)) ≡ ((a && b) && c)
and_assoc true b c = refl
and_assoc false b c = refl

listed_append : (f : Fabric) (source : ℕ) (earlier : List ℕ) (xs ys : List Pair) → is_listed_after f source earlier (xs ++ ys) ≡ (is_listed_after f source earlier xs && is_listed_after f source (ends_after earlier xs) ys)
listed_append f source earlier [] ys = refl
listed_append f source earlier (p ∷ ps) ys =
    ap (λ b. may_begin f source earlier p.0 && b) (listed_append f source (p.1 ∷ earlier) ps ys)
    ∙ and_assoc (may_begin f source earlier p.0) (is_listed_after f source (p.1 ∷ earlier) ps) (is_listed_after f source (ends_after (p.1 ∷ earlier) ps) ys)

ends_append : (earlier : List ℕ) (xs ys : List Pair) → ends_after earlier (xs ++ ys) ≡ ends_after (ends_after earlier xs) ys
ends_append earlier [] ys = refl
ends_append earlier (p ∷ ps) ys = ends_append (p.1 ∷ earlier) ps ys

still_after : (earlier : List ℕ) (xs : List Pair) (v : ℕ) → is_among earlier v ≡ true → is_among (ends_after earlier xs) v ≡ true
still_after earlier [] v e = e
still_after earlier (p ∷ ps) v e = still_after (p.1 ∷ earlier) ps v (or_right (p.1 == v) (is_among earlier v) e)

end_after : (earlier : List ℕ) (xs : List Pair) (v : ℕ) → Contains (ends_of xs) v → is_among (ends_after earlier xs) v ≡ true
end_after earlier [] v h = absurd (contains_none v h)
end_after earlier (p ∷ ps) v h = elim (contains_cases p.1 v (ends_of ps) h) [
  | inl e ↦ still_after (p.1 ∷ earlier) ps v (or_left (p.1 == v) (is_among earlier v) (eq-eqb p.1 v (sym e)))
  | inr later ↦ end_after (p.1 ∷ earlier) ps v later
]

-- a way that goes on where the pairs before it ended
listed_on : (f : Fabric) (source a : ℕ) (earlier way : List ℕ) → is_listed_after f source (a ∷ earlier) (pairs_along a way) ≡ true
listed_on f source a earlier [] = refl
listed_on f source a earlier (v ∷ vs) = ap₂ (λ b c. b && c) (or_left (a == a) _ (eq-eqb a a refl)) (listed_on f source v (a ∷ earlier) vs)

listed_way : (f : Fabric) (source a : ℕ) (earlier way : List ℕ) → may_begin f source earlier a ≡ true → is_listed_after f source earlier (pairs_along a way) ≡ true
listed_way f source a earlier [] begins = refl
listed_way f source a earlier (v ∷ vs) begins = ap₂ (λ b c. b && c) begins (listed_on f source v earlier vs)

-- it may begin at the source, or at an earlier end
may_start : (f : Fabric) (source a : ℕ) (earlier : List ℕ) → EndsInSink f earlier → (a ≡ source) ⊎ (is_among earlier a ≡ true) → may_begin f source earlier a ≡ true
may_start f source a [] sink (inl e) = eq-eqb a source e
may_start f source a [] sink (inr among) = absurd (false≢true among)
may_start f source a (e ∷ es) sink at = or_right (e == a) (is_sink f e && is_among (source ∷ e ∷ es) a) (ap₂ (λ b c. b && c) sink (among at))
  where
    among : (a ≡ source) ⊎ (is_among (e ∷ es) a ≡ true) → is_among (source ∷ e ∷ es) a ≡ true
    among (inl same) = or_left (source == a) (is_among (e ∷ es) a) (eq-eqb source a (sym same))
    among (inr later) = or_right (source == a) (is_among (e ∷ es) a) later

way_ends : (space : Space) (v b : ℕ) (earlier way : List ℕ) → IsWay space v way b → is_sink space.device b ≡ true → EndsInSink space.device (ends_after (v ∷ earlier) (pairs_along v way))
way_ends space v b earlier [] walk sink = rw walk sink
way_ends space v b earlier (u ∷ us) (_, _, rest) sink = way_ends space u b (v ∷ earlier) us rest sink

ends_in_sink : (space : Space) (tree : List Pair) → IsSpace space → IsGrown space tree → EndsInSink space.device (ends_after [] tree)
ends_in_sink space _ ok alone = tt
ends_in_sink space _ ok (grown tree a [] b g least) = rw (ends_append [] tree []) (ends_in_sink space tree ok g)
ends_in_sink space _ ok (grown tree a (v ∷ vs) b g least) =
    let (_, _, rest) = least.extension.walk in
    rw (ends_append [] tree (pairs_along a (v ∷ vs))) (way_ends space v b (ends_after [] tree) vs rest (ok.are_sinks b least.extension.target.sink))

listed_grown : (space : Space) (tree : List Pair) → IsSpace space → IsGrown space tree → is_listed_after space.device space.net.source [] tree ≡ true
listed_grown space _ ok alone = refl
listed_grown space _ ok (grown tree a way b g least) =
    let f = space.device in
    let source = space.net.source in
    listed_append f source [] tree (pairs_along a way)
    ∙ ap₂ (λ b c. b && c) (listed_grown space tree ok g)
    (listed_way f source a (ends_after [] tree) way (may_start f source a (ends_after [] tree) (ends_in_sink space tree ok g) (elim least.extension.start.covered [
      | inl e ↦ inl e
      | inr h ↦ inr (end_after [] tree a h)
    ])))

pub grown_listed : (space : Space) (tree : List Pair) (sinks : List ℕ) → IsSpace space → IsGrown space tree → is_listed space.device (with_sinks space sinks) tree ≡ true
unfolding is_listed
grown_listed space tree sinks ok g = listed_grown space tree ok g
