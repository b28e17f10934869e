-- What is grown of least ways routes the net as far as it reaches.
use Rattle.std.proofs.Common.{◌≡◌, ℕ, List, [], ◌∷◌, ◌++◌, ◌==◌, true, false, Bool, Contains, ◌↔◌, inl, inr, refl, sym, ◌∙◌, subst, arith, rules}
use Rattle.std.specs.Prelude.{count_by}
use Rattle.std.proofs.lemmas.Bool.{false≢true, eqb-true, eq-eqb, false_from_ne_true}
use Rattle.std.proofs.lemmas.Grind.{common_steps}
use Rattle.std.proofs.lemmas.List.Elements.{All-weaker, All-contains_itself, Contains-append_left, Contains-append_right, Contains-append_cases}
use Rattle.std.proofs.lemmas.List.Sums.{sum_by-cons, sum_by-append}
use Rattle.routing_problem.specs.Edges.{edge_between}
use Rattle.routing_problem.specs.Problems.{Net, is_sink}
use Rattle.route_tree.specs.Paths.{Pair, Path, ends_of}
use Rattle.route_tree.specs.Paths.Path.{here, along}
use Rattle.route_tree.specs.Legality.{has_twice, is_among, IsJoined, IsLegal}
use Rattle.route_tree.specs.Rows.{pairs_along}
use Rattle.route_tree.proofs.Members.{among_contains, end_of}
use Rattle.route_tree.proofs.Ways.{way_on}
use Rattle.wavefront.specs.Space.{Space, IsInside, IsWanted}
use Rattle.wavefront.specs.kept.Spaces.{IsSpace}
use Rattle.wavefront.specs.Ways.{AreDistinct, IsWay}
use Rattle.wavefront.specs.Growth.{Covers, IsStart, IsGrown}
use Rattle.wavefront.specs.Growth.IsGrown.{alone, grown}
use Rattle.wavefront.proofs.Added.{no_source, grown_entered, ends_added, ends_left, ends_right, ends_cases}
use Rattle.wavefront.proofs.Lists.{contains_none, contains_first, contains_later, contains_cases}
use Rattle.wavefront.proofs.WayNodes.{way_inside, way_last}

-- the net with other sinks
abbrev pub with_sinks : Space → List ℕ → Net
with_sinks space sinks = record { number = space.net.number; source = space.net.source; sinks = sinks }

-- ---- switches
way_switches : (space : Space) (a b : ℕ) (way : List ℕ) → IsWay space a way b → (p : Pair) → Contains (pairs_along a way) p → edge_between space.device p.0 p.1 ≡ true
way_switches space a b [] walk p h = absurd (contains_none p h)
way_switches space a b (v ∷ vs) (edge, _, rest) p h = elim (contains_cases (a, v) p (pairs_along v vs) h) [
  | inl e ↦ rw e edge
  | inr later ↦ way_switches space v b vs rest p later
]

grown_switches : (space : Space) (tree : List Pair) → IsGrown space tree → (p : Pair) → Contains tree p → edge_between space.device p.0 p.1 ≡ true
grown_switches space _ alone p h = absurd (contains_none p h)
grown_switches space _ (grown tree a way b g least) p h = elim (Contains-append_cases tree (pairs_along a way) p h) [
  | inl old ↦ grown_switches space tree g p old
  | inr new ↦ way_switches space a b way least.extension.walk p new
]

-- ---- no node twice
distinct_append : (xs ys : List ℕ) → AreDistinct xs → AreDistinct ys → ((v : ℕ) → Contains ys v → Contains xs v → ⊥) → AreDistinct (xs ++ ys)
distinct_append [] ys d e apart = e
distinct_append (x ∷ xs) ys d e apart = (
  λ h. elim (Contains-append_cases xs ys x h) [ inl old ↦ d.0 old | inr new ↦ apart x new (contains_first x xs) ],
  distinct_append xs ys d.1 e (λ v new old. apart v new (contains_later x v xs old)),
)

grown_distinct : (space : Space) (tree : List Pair) → IsGrown space tree → AreDistinct (ends_of tree)
grown_distinct space _ alone = tt
grown_distinct space _ (grown tree a way b g least) =
    rw (ends_added tree a way) (distinct_append (ends_of tree) way (grown_distinct space tree g) least.distinct (λ v new old. least.extension.apart v new (inr old)))

distinct_once : (xs : List ℕ) → AreDistinct xs → has_twice xs ≡ false
distinct_once [] d = refl
distinct_once (x ∷ xs) d = rw (false_from_ne_true (is_among xs x) (λ e. d.0 (among_contains xs x e)), distinct_once xs d.1) refl

-- ---- one pair from the source
abbrev roots : Space → List Pair → ℕ
roots space tree = count_by (λ p. p.0 == space.net.source) tree

differs : (x y : ℕ) (b : Bool) → (x == y) ≡ b → (x ≡ y → ⊥) → b ≡ false
differs x y true e ne = absurd (ne (eqb-true x y e))
differs x y false e ne = refl

way_roots : (space : Space) (a b : ℕ) (way : List ℕ) → IsSpace space → IsWay space a way b → (a ≡ space.net.source → ⊥) → roots space (pairs_along a way) ≡ 0
way_roots space a b [] ok walk other = search (rules, common_steps)
way_roots space a b (v ∷ vs) ok (edge, _, rest) other =
    let more : roots space (pairs_along v vs) ≡ 0 = way_roots space v b vs ok rest (no_source space v ok (a, edge)) in
    sum_by-cons _ (a, v) (pairs_along v vs) ∙ rw (differs a space.net.source _ refl other) (omega (arith, more))

first_roots : (space : Space) (a b : ℕ) (way : List ℕ) → IsSpace space → IsWay space a way b → a ≡ space.net.source → (way ≡ [] → ⊥) → roots space (pairs_along a way) ≡ 1
first_roots space a b [] ok walk e some = absurd (some refl)
first_roots space a b (v ∷ vs) ok (edge, _, rest) e some =
    let more : roots space (pairs_along v vs) ≡ 0 = way_roots space v b vs ok rest (no_source space v ok (a, edge)) in
    sum_by-cons _ (a, v) (pairs_along v vs) ∙ rw (eq-eqb a space.net.source e) (omega (arith, more))

first_start : (space : Space) (a : ℕ) → IsStart space [] a → a ≡ space.net.source
first_start space a start = elim start.covered [ inl e ↦ e | inr none ↦ absurd (contains_none a none) ]

grown_root : (space : Space) (tree : List Pair) → IsSpace space → IsGrown space tree → (tree ≡ [] → ⊥) → roots space tree ≡ 1
grown_root space _ ok alone some = absurd (some refl)
grown_root space _ ok (grown [] a way b g least) some = first_roots space a b way ok least.extension.walk (first_start space a least.extension.start) (λ e. some (rw e refl))
grown_root space _ ok (grown (t ∷ ts) a way b g least) some =
    let old : roots space (t ∷ ts) ≡ 1 = grown_root space (t ∷ ts) ok g (λ e. cc) in
    let new : roots space (pairs_along a way) ≡ 0 = way_roots space a b way ok least.extension.walk (λ e. let none = least.extension.start.alone e in cc) in
    sum_by-append _ (t ∷ ts) (pairs_along a way) ∙ (omega (arith, old, new))

-- ---- the sinks that are reached
way_sinks : (space : Space) (a b v : ℕ) (way : List ℕ) → IsSpace space → IsWay space a way b → Contains way v → is_sink space.device v ≡ true → v ≡ b
way_sinks space a b v [] ok walk h sink = absurd (contains_none v h)
way_sinks space a b v (u ∷ []) ok (_, _, last) h sink = elim (contains_cases u v [] h) [ inl e ↦ e ∙ last | inr none ↦ absurd (contains_none v none) ]
way_sinks space a b v (u ∷ x ∷ us) ok (_, _, rest) h sink = elim (contains_cases u v (x ∷ us) h) [
  | inl e ↦ absurd (false≢true (sym (ok.ends u x rest.0) ∙ rw (← e) sink))
  | inr later ↦ way_sinks space u b v (x ∷ us) ok rest later sink
]

grown_sinks : (space : Space) (tree : List Pair) → IsSpace space → IsGrown space tree → (v : ℕ) → Contains (ends_of tree) v → is_sink space.device v ≡ true → IsWanted space v
grown_sinks space _ ok alone v h sink = absurd (contains_none v h)
grown_sinks space _ ok (grown tree a way b g least) v h sink = elim (ends_cases tree a way v h) [
  | inl old ↦ grown_sinks space tree ok g v old sink
  | inr new ↦ rw (way_sinks space a b v way ok least.extension.walk new sink) least.extension.target.sink
]

-- ---- ways along the pairs
path_more : (xs ys : List Pair) → ((p : Pair) → Contains xs p → Contains ys p) → (a b : ℕ) → Path xs a b → Path ys a b
path_more xs ys more a _ (here _) = here a
path_more xs ys more a _ (along _ b c h way) = along a b c (more (a, b) h) (path_more xs ys more b c way)

path_to : (a v : ℕ) (way : List ℕ) → Contains way v → Path (pairs_along a way) a v
path_to a v [] h = absurd (contains_none v h)
path_to a v (u ∷ us) h = elim (contains_cases u v us h) [
  | inl e ↦ rw e (along a u u (contains_first (a, u) (pairs_along u us)) (here u))
  | inr later ↦ along a u v (contains_first (a, u) (pairs_along u us)) (path_more (pairs_along u us) _ (λ p. contains_later (a, u) p (pairs_along u us)) u v (path_to u v us later))
]

path_whole : (space : Space) (a b : ℕ) (way : List ℕ) → IsWay space a way b → Path (pairs_along a way) a b
path_whole space a b [] walk = subst (Path [] a) walk (here a)
path_whole space a b (u ∷ us) (_, _, rest) = along a u b (contains_first (a, u) (pairs_along u us)) (path_more (pairs_along u us) _ (λ p. contains_later (a, u) p (pairs_along u us)) u b (path_whole space u b us rest))

path_from : (space : Space) (a b v : ℕ) (way : List ℕ) → IsWay space a way b → Contains way v → Path (pairs_along a way) v b
path_from space a b v [] walk h = absurd (contains_none v h)
path_from space a b v (u ∷ us) (_, _, rest) h = path_more (pairs_along u us) _ (λ p. contains_later (a, u) p (pairs_along u us)) v b (elim (contains_cases u v us h) [
  | inl e ↦ rw e (path_whole space u b us rest)
  | inr later ↦ path_from space u b v us rest later
])

grown_from : (space : Space) (tree : List Pair) (v : ℕ) → IsGrown space tree → Covers space tree v → Path tree space.net.source v
grown_from space tree v g (inl e) = rw e (here space.net.source)
grown_from space _ v alone (inr h) = absurd (contains_none v h)
grown_from space _ v (grown tree a way b g least) (inr h) = elim (ends_cases tree a way v h) [
  | inl old ↦ path_more tree _ (λ p. Contains-append_left tree (pairs_along a way) p) space.net.source v (grown_from space tree v g (inr old))
  | inr new ↦ way_on _ v
      (path_more tree _ (λ p. Contains-append_left tree (pairs_along a way) p) space.net.source a (grown_from space tree a g least.extension.start.covered))
      (path_more (pairs_along a way) _ (λ p. Contains-append_right tree (pairs_along a way) p) a v (path_to a v way new))
]

-- a way leads on to a sink that is reached
record LeadsOn (space : Space) (tree : List Pair) (v : ℕ) : Type 0 where
  sink : ℕ
  wanted : IsWanted space sink
  reached : Contains (ends_of tree) sink
  path : Path tree v sink

leads_more : (space : Space) (tree : List Pair) (a : ℕ) (way : List ℕ) (v : ℕ) → LeadsOn space tree v → LeadsOn space (tree ++ pairs_along a way) v
leads_more space tree a way v l = record {
  sink = l.sink;
  wanted = l.wanted;
  reached = ends_left tree a way l.sink l.reached;
  path = path_more tree _ (λ p. Contains-append_left tree (pairs_along a way) p) v l.sink l.path;
}

some_last : (space : Space) (a b v : ℕ) (way : List ℕ) → IsWay space a way b → Contains way v → Contains way b
some_last space a b v [] walk h = absurd (contains_none v h)
some_last space a b v (u ∷ us) (_, _, rest) h = elim (way_last space u b us rest) [
  | inl e ↦ rw (← e) (contains_first u us)
  | inr later ↦ contains_later u b us later
]

grown_leads : (space : Space) (tree : List Pair) (v : ℕ) → IsGrown space tree → Contains (ends_of tree) v → LeadsOn space tree v
grown_leads space _ v alone h = absurd (contains_none v h)
grown_leads space _ v (grown tree a way b g least) h = elim (ends_cases tree a way v h) [
  | inl old ↦ leads_more space tree a way v (grown_leads space tree v g old)
  | inr new ↦ record {
    sink = b;
    wanted = least.extension.target.sink;
    reached = ends_right tree a way b (some_last space a b v way least.extension.walk new);
    path = path_more (pairs_along a way) _ (λ p. Contains-append_right tree (pairs_along a way) p) v b (path_from space a b v way least.extension.walk new);
  }
]

-- ---- inside the box
pub grown_inside : (space : Space) (tree : List Pair) (v : ℕ) → IsSpace space → IsGrown space tree → Covers space tree v → IsInside space v
grown_inside space tree v ok g (inl e) = rw e ok.source_inside
grown_inside space _ v ok alone (inr h) = absurd (contains_none v h)
grown_inside space _ v ok (grown tree a way b g least) (inr h) = elim (ends_cases tree a way v h) [
  | inl old ↦ grown_inside space tree v ok g (inr old)
  | inr new ↦ way_inside space a b v way least.extension.walk new
]

-- ---- all of it, for the sinks that are reached
pub grown_legal : (space : Space) (tree : List Pair) (sinks : List ℕ) → IsSpace space → IsGrown space tree → (tree ≡ [] → ⊥)
    → ((v : ℕ) → Contains sinks v ↔ (IsWanted space v × Contains (ends_of tree) v)) → IsLegal space.device (with_sinks space sinks) tree
grown_legal space tree sinks ok g some reached = record {
  switches = All-weaker (Contains tree) (λ p. edge_between space.device p.0 p.1 ≡ true) (grown_switches space tree g) tree (All-contains_itself tree);
  once = distinct_once (space.net.source ∷ ends_of tree) ((λ h. no_source space space.net.source ok (grown_entered space tree space.net.source g h) refl), grown_distinct space tree g);
  one_output = grown_root space tree ok g some;
  sinks = λ v. (
    λ h. (reached v).1 (grown_sinks space tree ok g v h.0 h.1, h.0),
    λ h. let r = (reached v).0 h in (r.1, ok.are_sinks v r.0),
  );
  joined = All-weaker (Contains tree) (IsJoined (with_sinks space sinks) tree) (λ p h.
      let l = grown_leads space tree p.1 g (end_of tree p h) in
      record {
        from_source = grown_from space tree p.1 g (inr (end_of tree p h));
        to_sink = (l.sink, (reached l.sink).1 (l.wanted, l.reached), l.path);
      }) tree (All-contains_itself tree);
}

-- a pair leads on to a sink of the net that is reached
pub grown_wants : (space : Space) (tree : List Pair) (p : Pair) → IsGrown space tree → Contains tree p → (v : ℕ) × IsWanted space v × Contains (ends_of tree) v
grown_wants space tree p g h = let l = grown_leads space tree p.1 g (end_of tree p h) in (l.sink, l.wanted, l.reached)
