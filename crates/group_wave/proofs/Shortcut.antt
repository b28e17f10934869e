-- Where there is a way, there is one that enters no node twice, and so one whose cost is below FAR.
use Rattle.std.proofs.Common.{◌≡◌, ℕ, ◌*◌, ◌<◌, ◌≤◌, List, [], ◌∷◌, length, eqb, Bool, true, false, Contains, ◌⊎◌, inl, inr, refl, arith}
use Rattle.std.specs.List.{AllByRecursion, IsDistinct}
use Rattle.std.proofs.lemmas.Bool.{cases_eq, eqb-true}
use Rattle.std.proofs.lemmas.Map.Keys.{IsDistinct-cons}
use Rattle.std.proofs.lemmas.Map.Steps.{length-le_from_distinct_below}
use Rattle.std.proofs.lemmas.Map.Views.{Contains-from_any}
use Rattle.route_tree.specs.Paths.{Pair}
use Rattle.wavefront.specs.Space.{Space}
use Rattle.wavefront.specs.kept.Spaces.{IsSpace, node_count}
use Rattle.wavefront.specs.Ways.{AreDistinct, IsWay, way_cost}
use Rattle.wavefront.specs.Growth.{IsShut}
use Rattle.wavefront.proofs.Lists.{contains_none, contains_first, contains_later, contains_cases}
use Rattle.wavefront.proofs.WayNodes.{way_cost_more, way_cost_none, way_in}
use Rattle.wave_ground.specs.kept.Grounds.{Ground, IsGround}
use Rattle.group_wave.specs.kept.Growing.{Matches}
use Rattle.group_wave.specs.kept.Steps.{IsLeastKey, SameOrigins}
use Rattle.group_wave.specs.kept.WaveState.{FAR, Wave}
use Rattle.group_wave.specs.kept.Wave.{IsOpen, IsOrigin}
use Rattle.group_wave.proofs.Added.{matches_same, target_open}

contains_or_not : (xs : List ℕ) (v : ℕ) → Contains xs v ⊎ (Contains xs v → ⊥)
contains_or_not [] v = inr (contains_none v)
contains_or_not (x ∷ xs) v = elim (cases_eq v x) [
  | inl e ↦ inl (rw e (contains_first x xs))
  | inr ne ↦ elim (contains_or_not xs v) [
    | inl h ↦ inl (contains_later x v xs h)
    | inr apart ↦ inr (λ h. elim (contains_cases x v xs h) [ inl e ↦ ne e | inr later ↦ apart later ])
  ]
]

-- a way that costs no more, and enters no node twice, nor its first
record IsShort (space : Space) (a : ℕ) (way : List ℕ) (b k : ℕ) : Type 0 where
  walk : IsWay space a way b
  distinct : AreDistinct (a ∷ way)
  cheap : way_cost space way ≤ k

module _ (space : Space) where
  -- the part of a way after a node of its
  cut : (v b a : ℕ) (way : List ℕ) → IsWay space v way b → AreDistinct way → Contains way a → (rest : List ℕ) × IsShort space a rest b (way_cost space way)
  cut v b a [] walk d h = absurd (contains_none a h)
  cut v b a (u ∷ us) (_, _, walk) d h =
      let more = way_cost_more space u us in
      elim (contains_cases u a us h) [
        | inl e ↦ (us, record { walk = rw e walk; distinct = rw e d; cheap = omega (arith, more) })
        | inr later ↦ let (rest, s) = cut u b a us walk d.1 later in let cheap = s.cheap in (rest, record { walk = s.walk; distinct = s.distinct; cheap = omega (arith, more, cheap) })
      ]

  shorten : (a b : ℕ) (way : List ℕ) → IsWay space a way b → (short : List ℕ) × IsShort space a short b (way_cost space way)
  shorten a b [] e = ([], record { walk = e; distinct = (contains_none a, tt); cheap = omega arith })
  shorten a b (u ∷ us) (edge, inside, walk) =
      let (qs, s) = shorten u b us walk in
      let more = way_cost_more space u us in
      let cheap = s.cheap in
      elim (contains_or_not (u ∷ qs) a) [
        | inl h ↦ elim (contains_cases u a qs h) [
          | inl e ↦ (qs, record { walk = rw e s.walk; distinct = rw e s.distinct; cheap = omega (arith, more, cheap) })
          | inr later ↦ let (rest, r) = cut u b a qs s.walk s.distinct.1 later in let low = r.cheap in (rest, record { walk = r.walk; distinct = r.distinct; cheap = omega (arith, more, cheap, low) })
        ]
        | inr apart ↦ let longer = way_cost_more space u qs in (u ∷ qs, record { walk = (edge, inside, s.walk); distinct = (apart, s.distinct); cheap = omega (arith, more, longer, cheap) })
      ]

apart_all : (x : ℕ) (xs : List ℕ) → (Contains xs x → ⊥) → AllByRecursion (λ y. eqb x y ≡ false) xs
apart_all x [] h = tt
apart_all x (y ∷ ys) h = (differs (eqb x y) refl, apart_all x ys (λ later. h (contains_later y x ys later)))
  where
    differs : (b : Bool) → eqb x y ≡ b → b ≡ false
    differs true e = absurd (h (rw (eqb-true x y e) (contains_first y ys)))
    differs false e = refl

is_distinct : (xs : List ℕ) → AreDistinct xs → IsDistinct eqb xs
unfolding IsDistinct
is_distinct [] d = tt
is_distinct (x ∷ xs) d = IsDistinct-cons eqb x xs (apart_all x xs d.0) (is_distinct xs d.1)

few : (xs : List ℕ) (n : ℕ) → AreDistinct xs → ((x : ℕ) → Contains xs x → x < n) → length xs ≤ n
few xs n d below = length-le_from_distinct_below xs n (is_distinct xs d) (λ q found. below q (Contains-from_any eqb-true q xs found))

cost_few : (space : Space) (way : List ℕ) → IsSpace space → ((v : ℕ) → Contains way v → v < node_count space) → way_cost space way ≤ length way * 1208925819614629174706176
cost_few space [] ok nodes = let none = way_cost_none space in omega (arith, none)
cost_few space (u ∷ us) ok nodes =
    let more = way_cost_more space u us in
    let one = ok.cheap u (nodes u (contains_first u us)) in
    let rest = cost_few space us ok (λ v h. nodes v (contains_later u v us h)) in
    omega (arith, more, one, rest)

-- no way from a start to an open sink has been too dear for the keys
pub no_way : (g : Ground) (w : Wave) → IsGround g → IsLeastKey g w FAR → (a b : ℕ) (way : List ℕ) → IsOrigin w a → IsOpen g w b → IsWay g.space a way b → ⊥
no_way g w ok least a b way start target walk =
    let space = g.space in
    let (short, h) = shorten space a b way walk in
    let far = least a b short start target h.walk in
    let nodes = way_in space a b short ok.space h.walk in
    let room = few short (node_count space) h.distinct.1 nodes in
    let cost = cost_few space short ok.space nodes in
    let count = ok.space.few in
    omega (arith, far, room, cost, count)

-- nor one that the tree could take on
pub shut : (g : Ground) (tree : List Pair) (s t : Wave) → IsGround g → Matches g tree s → SameOrigins s t → IsLeastKey g t FAR → IsShut g.space tree
shut g tree s t ok m same least a b way start target walk =
    let matches = matches_same g tree s t m same in
    no_way g t ok least a b way ((matches a).1 start) (target_open g tree t b matches target) walk
