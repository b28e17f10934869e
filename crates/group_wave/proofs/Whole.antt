-- The start and the end of a tree's growth.
use Rattle.std.proofs.Common.{◌≡◌, ℕ, ◌+◌, ◌<◌, ◌≤◌, ◌-◌, List, [], ◌∷◌, length, slice_index, Bool, true, false, Contains, ◌⊎◌, ◌↔◌, inl, inr, refl, sym, ◌∙◌, arith, if◌then◌else◌}
use Rattle.std.specs.List.{filter}
use Rattle.std.proofs.lemmas.Bool.{cases_lt, false≢true}
use Rattle.std.proofs.lemmas.List.{get_or_default}
use Rattle.route_tree.specs.declared.tree.Row.{Row}
use Rattle.route_tree.specs.Paths.{Pair, ends_of}
use Rattle.route_tree.specs.Legality.{is_among}
use Rattle.route_tree.specs.Rows.{pairs_of}
use Rattle.route_tree.proofs.Members.{contains_among, among_contains}
use Rattle.wavefront.specs.Space.{Space, IsWanted}
use Rattle.wavefront.specs.kept.Spaces.{IsSpace}
use Rattle.wavefront.specs.Growth.{IsGrown, IsPart, IsRouteSoFar, IsShut, IsStuck, IsWhole, net_reached}
use Rattle.wavefront.specs.Growth.IsGrown.{alone}
use Rattle.wavefront.proofs.Wanted.{is_sink_at, rises}
use Rattle.wave_ground.specs.kept.Grounds.{Ground, IsGround}
use Rattle.group_wave.specs.kept.Growing.{IsGrowth, Matches}
use Rattle.group_wave.specs.kept.WaveState.{Wave}
use Rattle.group_wave.specs.kept.Wave.{IsBest, IsComplete, IsOrigin, IsWave}
use Rattle.group_wave.specs.kept.Steps.{MoreOrigins, NoOrigins}
use Rattle.group_wave.proofs.Added.{open_target, target_open}
use Rattle.wavefront.proofs.Grown.{grown_legal, grown_inside, grown_wants}
use Rattle.wavefront.proofs.Lists.{contains_none, contains_first, contains_later, contains_cases}
use Rattle.wavefront.proofs.Orderly.{grown_listed}

pub begun : (g : Ground) (s t : Wave) (rows : List Row) → rows ≡ record { node = g.space.net.source; parent = 0 } ∷ [] → IsWave g t → IsComplete g t → IsBest g t → NoOrigins s → MoreOrigins s t g.space.net.source → IsGrowth g rows t
unfolding pairs_of
begun g s t rows one wave complete best origins more = rw one (record {
  root = refl;
  wave = wave;
  complete = complete;
  best = best;
  grown = alone;
  origins = λ v. (
    λ o. elim ((more v).0 o) [ inl old ↦ absurd (origins v old) | inr e ↦ record { covered = inl e; alone = λ _. refl } ],
    λ h. elim h.covered [ inl e ↦ (more v).1 (inr e) | inr c ↦ absurd (contains_none v c) ],
  );
})

-- ---- a part
kept_cases : (p : ℕ → Bool) (x : ℕ) (rest : List ℕ) (b : Bool) → p x ≡ b → (v : ℕ) → Contains (if b then x ∷ rest else rest) v → ((v ≡ x) × (p x ≡ true)) ⊎ Contains rest v
kept_cases p x rest true e v h = elim (contains_cases x v rest h) [ inl same ↦ inl (same, e) | inr later ↦ inr later ]
kept_cases p x rest false e v h = inr h

kept_first : (p : ℕ → Bool) (x : ℕ) (rest : List ℕ) (b : Bool) → p x ≡ b → p x ≡ true → Contains (if b then x ∷ rest else rest) x
kept_first p x rest true e passes = contains_first x rest
kept_first p x rest false e passes = absurd (false≢true (sym e ∙ passes))

kept_later : (x v : ℕ) (rest : List ℕ) (b : Bool) → Contains rest v → Contains (if b then x ∷ rest else rest) v
kept_later x v rest true h = contains_later x v rest h
kept_later x v rest false h = h

filter_has : (p : ℕ → Bool) (xs : List ℕ) (v : ℕ) → Contains (filter p xs) v ↔ (Contains xs v × (p v ≡ true))
filter_has p [] v = (λ h. absurd (contains_none v h), λ h. absurd (contains_none v h.0))
filter_has p (x ∷ xs) v =
    let rest = filter_has p xs v in (
      λ h. elim (kept_cases p x (filter p xs) (p x) refl v h) [
        | inl here ↦ (rw (here.0) (contains_first x xs), rw (here.0) (here.1))
        | inr later ↦ let r = rest.0 later in (contains_later x v xs r.0, r.1)
      ],
      λ h. elim (contains_cases x v xs h.0) [
        | inl same ↦ rw same (kept_first p x (filter p xs) (p x) refl (rw same at h.1))
        | inr later ↦ kept_later x v (filter p xs) (p x) (rest.1 (later, h.1))
      ],
    )

some_there : (xs : List ℕ) (v : ℕ) → Contains xs v → 1 ≤ length xs
some_there xs v (k, lt, at) = omega (arith, lt)

reached_sinks : (space : Space) (tree : List Pair) (v : ℕ) → Contains (net_reached space.net tree).sinks v ↔ (IsWanted space v × Contains (ends_of tree) v)
reached_sinks space tree v =
    let kept = filter_has (is_among (ends_of tree)) space.net.sinks v in (
      λ h. ((kept.0 h).0, among_contains (ends_of tree) v (kept.0 h).1),
      λ h. kept.1 (h.0, contains_among (ends_of tree) v h.1),
    )

grown_route : (space : Space) (p : Pair) (ps : List Pair) → IsSpace space → IsGrown space (p ∷ ps) → IsRouteSoFar space (p ∷ ps)
grown_route space p ps ok g =
    let (v, wanted, reached) = grown_wants space (p ∷ ps) p g (contains_first p ps) in
    record {
      reaches = some_there _ v ((reached_sinks space (p ∷ ps) v).1 (wanted, reached));
      legal = grown_legal space (p ∷ ps) (net_reached space.net (p ∷ ps)).sinks ok g (λ e. cc) (reached_sinks space (p ∷ ps));
      listed = grown_listed space (p ∷ ps) (net_reached space.net (p ∷ ps)).sinks ok g;
    }

grown_part : (space : Space) (tree : List Pair) → IsSpace space → IsGrown space tree → IsPart space tree
grown_part space [] ok g = record { inside = λ v. grown_inside space [] v ok g; route = inl refl }
grown_part space (p ∷ ps) ok g = record { inside = λ v. grown_inside space (p ∷ ps) v ok g; route = inr (grown_route space p ps ok g) }

-- no way leads from the source to a sink
pub stuck_first : (g : Ground) → IsGround g → IsShut g.space [] → IsStuck g.space (slice_index g.space.net.sinks 0)
stuck_first g ok shut =
    let first = is_sink_at g.space 0 ok.space.some_sink in (
      [],
      record {
        part = grown_part g.space [] ok.space alone;
        grown = alone;
        target = record {
          sink = first;
          apart = λ cover. elim cover [ inl e ↦ ok.space.apart (rw e at first) | inr none ↦ contains_none _ none ];
        };
        least = λ b target. no_lower b target.sink;
        shut = shut;
      },
    )
  where
    no_lower : (b : ℕ) → IsWanted g.space b → slice_index g.space.net.sinks 0 ≤ b
    no_lower b (j, in_list, at) =
        let found : slice_index g.space.net.sinks j ≡ b = get_or_default g.space.net.sinks j 0 b in_list ∙ at in
        let up = rises g.space.net.sinks ok.space.ascending 0 j j (omega arith) in_list in
        omega (arith, up, found)

-- ---- the sinks before the i-th are taken
abbrev pub TakenBelow : Ground → Wave → ℕ → Type 0
TakenBelow g w i = (k : ℕ) → k < i → IsOrigin w (slice_index g.space.net.sinks k)

taken_sink : (g : Ground) (w : Wave) (i b : ℕ) → IsGround g → TakenBelow g w i → i < length g.space.net.sinks → IsWanted g.space b → IsOrigin w b ⊎ (slice_index g.space.net.sinks i ≤ b)
taken_sink g w i b ok taken lt (j, in_list, at) =
    let found : slice_index g.space.net.sinks j ≡ b = get_or_default g.space.net.sinks j 0 b in_list ∙ at in
    elim (cases_lt j i) [
      | inl below ↦ inl (rw (← found) (taken j below))
      | inr above ↦ let up = rises g.space.net.sinks ok.space.ascending i (j - i) j (omega (arith, above)) in_list in inr (omega (arith, up, found))
    ]

pub stuck : (g : Ground) (w : Wave) (rows : List Row) (i : ℕ) → IsGround g → IsGrowth g rows w → TakenBelow g w i → i < length g.space.net.sinks → (IsOrigin w (slice_index g.space.net.sinks i) → ⊥) → IsShut g.space (pairs_of rows) → IsStuck g.space (slice_index g.space.net.sinks i)
stuck g w rows i ok growth taken lt apart shut = (
  pairs_of rows,
  record {
    part = grown_part g.space (pairs_of rows) ok.space growth.grown;
    grown = growth.grown;
    target = open_target g (pairs_of rows) w (slice_index g.space.net.sinks i) ok growth.origins (is_sink_at g.space i lt, apart);
    least = λ b target. elim (taken_sink g w i b ok taken lt target.sink) [
      | inl o ↦ absurd ((target_open g (pairs_of rows) w b growth.origins target).1 o)
      | inr up ↦ up
    ];
    shut = shut;
  },
)

pub taken_more : (g : Ground) (w : Wave) (i : ℕ) → TakenBelow g w i → IsOrigin w (slice_index g.space.net.sinks i) → TakenBelow g w (i + 1)
taken_more g w i taken here k lt = elim (cases_lt k i) [
  | inl below ↦ taken k below
  | inr above ↦ let e : k ≡ i = omega arith in rw e here
]

covers_sink : (g : Ground) (w : Wave) (tree : List Pair) (v : ℕ) → IsGround g → Matches g tree w → IsWanted g.space v → IsOrigin w v → Contains (ends_of tree) v
covers_sink g w tree v ok m wanted o = elim ((m v).0 o).covered [
  | inl e ↦ absurd (ok.space.apart (rw e at wanted))
  | inr h ↦ h
]

all_taken : (g : Ground) (w : Wave) (i v : ℕ) → TakenBelow g w i → length g.space.net.sinks ≤ i → IsWanted g.space v → IsOrigin w v
all_taken g w i v taken all (j, in_list, at) =
    let found : slice_index g.space.net.sinks j ≡ v = get_or_default g.space.net.sinks j 0 v in_list ∙ at in
    rw (← found) (taken j (omega (arith, in_list, all)))

pub whole : (g : Ground) (w : Wave) (rows : List Row) (i : ℕ) → IsGround g → IsGrowth g rows w → TakenBelow g w i → length g.space.net.sinks ≤ i → IsWhole g.space rows
whole g w rows i ok growth taken all =
    let tree = pairs_of rows in
    let reached : (v : ℕ) → IsWanted g.space v → Contains (ends_of tree) v = λ v wanted. covers_sink g w tree v ok growth.origins wanted (all_taken g w i v taken all wanted) in
    let first : IsWanted g.space (slice_index g.space.net.sinks 0) = is_sink_at g.space 0 ok.space.some_sink in
    record {
      root = growth.root;
      legal = grown_legal g.space tree g.space.net.sinks ok.space growth.grown (λ none. contains_none _ (rw none at (reached _ first))) (λ v. (λ h. (h, reached v h), λ h. h.0));
      listed = grown_listed g.space tree g.space.net.sinks ok.space growth.grown;
      inside = λ v. grown_inside g.space tree v ok.space growth.grown;
      grown = growth.grown;
    }
