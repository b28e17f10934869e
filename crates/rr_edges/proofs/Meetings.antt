-- The wires of a track that touch a corner of their channel, and those next to a wire.
use Rattle.std.proofs.Common.{◌≡◌, ◌≢◌, ℕ, ◌+◌, ◌-◌, ◌<◌, ◌≤◌, ◌⊎◌, inl, inr, Bool, true, false, cond, List, [], ◌∷◌, ◌++◌, refl, sym, ap, ◌∙◌, subst, arith}
use Rattle.std.specs.Prelude.{◌==◌, ◌&&◌, ◌||◌, not, nat_le, nat_lt}
use Rattle.std.specs.List.{flat_map}
use Rattle.std.proofs.lemmas.Bool.{and_left, eqb-false, le-ltb, and_parts, and_right, false_from_ne_true, eqb-true, or_from, cond_both, cases_lt, false≢true, leb-true, leb-false, ltb-true}
use Rattle.std.proofs.lemmas.Bool.Decides.{nat_tests}
use Rattle.std.proofs.Math.Bool.{or-false}
use Rattle.channel_tables.specs.Fabric.{Fabric, numbers_below, is_between}
use Rattle.channel_tables.specs.Wires.{begins, last_of}
use Rattle.channel_tables.specs.Channels.{first_of}
use Rattle.rr_edges.specs.kept.Channels.{meeting_of, beside_of}
use Rattle.channel_tables.proofs.Rising.{Rises, rises-lower, rises-higher}
use Rattle.channel_tables.proofs.TrackWires.{IsBeginning, IsLast, beginning, beginning-test, begins_after, first_begins, first_of-is, first_of_grows, is_among, is_first_of, joined_below, last_of-is}

-- ---- tests on a wire from q to l, where w says that one begins at q
at_start : (w : Bool) (q l : ℕ) → (w ≡ true → (1 ≤ q) × (q ≤ l)) → ((w && (nat_le q 1 && nat_le 1 l)) || false) ≡ (w && (nat_le q (0 + 1) && nat_le 0 l))
at_start false q l h = refl
at_start true q l h = let d = h refl in grind (arith, nat_tests)

at_end : (w : Bool) (q l n : ℕ) → (w ≡ true → q ≤ n) → ((w && (nat_le q n && nat_le n l)) || false) ≡ (w && (nat_le q (n + 1) && nat_le n l))
at_end false q l n h = refl
at_end true q l n h = let d = h refl in grind (arith, nat_tests)

at_one : (w : Bool) (q l c : ℕ) → (w ≡ true → q ≤ l) → (w && (nat_le q c && nat_le c l)) ≡ (w && (nat_le q (c + 1) && nat_le (c + 1) l)) →
    ((w && (nat_le q c && nat_le c l)) || false) ≡ (w && (nat_le q (c + 1) && nat_le c l))
at_one false q l c h e = refl
at_one true q l c h e = let d = h refl in grind (arith, nat_tests)

at_two : (w : Bool) (q l c : ℕ) → (w ≡ true → q ≤ l) →
    ((w && (nat_le q c && nat_le c l)) || ((w && (nat_le q (c + 1) && nat_le (c + 1) l)) || false)) ≡ (w && (nat_le q (c + 1) && nat_le c l))
at_two false q l c h = refl
at_two true q l c h = let d = h refl in grind (arith, nat_tests)

-- a wire from q to l, and another from x to e: none begins inside the other
record AreApart (q l x e : ℕ) : Type 0 where
  from : 1 ≤ q
  far : q ≤ l
  after : (q ≤ x) ⊎ (e < q)
  before : (x ≤ q) ⊎ (l < x)

at_sides : (w : Bool) (q l x e n : ℕ) → x ≤ e → (w ≡ true → AreApart q l x e × (q ≤ n)) → (e < n → q ≡ e + 1 → w ≡ true) →
    ((nat_lt 1 x && (w && (nat_le q (x - 1) && nat_le (x - 1) l))) || (nat_lt e n && q == e + 1))
    ≡ (w && (not (q == x) && (nat_le q (e + 1) && nat_le x (l + 1))))
at_sides false q l x e n le h next =
    or_from (nat_lt 1 x && false) (nat_lt e n && q == e + 1) (and_right (nat_lt 1 x) false refl) (false_from_ne_true (nat_lt e n && q == e + 1) (λ t.
    let both = and_parts (nat_lt e n) (q == e + 1) t in
    false≢true (next (ltb-true e n both.0) (eqb-true q (e + 1) both.1))))
at_sides true q l x e n le h next = let d = h refl in grind (arith, nat_tests)

among_sides : (u v : Bool) (a c q : ℕ) → is_among (cond u (a ∷ []) [] ++ cond v (c ∷ []) []) q ≡ ((u && q == a) || (v && q == c))
among_sides true true a c q = ap (λ r. (q == a) || r) (or-false (q == c))
among_sides true false a c q = refl
among_sides false true a c q = or-false (q == c)
among_sides false false a c q = refl

module _ (f : Fabric) (n t : ℕ) where
  -- ---- the wires that touch a corner
  meeting_cases : (P : List ℕ → Type 0) (c : ℕ) → c ≤ n → (c ≡ 0 → P (first_of f n t 1 ∷ [])) → (1 ≤ c → c ≡ n → P (first_of f n t n ∷ [])) →
      (1 ≤ c → c < n → first_of f n t c ≡ first_of f n t (c + 1) → P (first_of f n t c ∷ [])) →
      (1 ≤ c → c < n → first_of f n t c ≢ first_of f n t (c + 1) → P (first_of f n t c ∷ first_of f n t (c + 1) ∷ [])) → P (meeting_of f n t c)
  unfolding meeting_of
  meeting_cases P c m start end one two =
      let here = first_of f n t c in
      let behind = first_of f n t (c + 1) in
      let inner : List ℕ = cond (here == behind) (here ∷ []) (here ∷ behind ∷ []) in
      cond_both (c == 0) (first_of f n t 1 ∷ []) (cond (nat_le n c) (first_of f n t n ∷ []) inner) P (λ e. start (eqb-true c 0 e)) (λ d.
      let some : 1 ≤ c = let ne = eqb-false c 0 d in omega arith in
      cond_both (nat_le n c) (first_of f n t n ∷ []) inner P (λ e. end some (let le = leb-true n c e in omega arith)) (λ g.
      let less : c < n = leb-false n c g in
      cond_both (here == behind) (here ∷ []) (here ∷ behind ∷ []) P (λ e. one some less (eqb-true here behind e))
      (λ e. two some less (eqb-false here behind e))))

  -- exactly the wires that touch the corner
  pub meeting_of-is : (c q : ℕ) → 1 ≤ n → c ≤ n →
      is_among (meeting_of f n t c) q ≡ ((is_between 1 n q && begins f n t q) && (nat_le q (c + 1) && nat_le c (last_of f n t q)))
  meeting_of-is c q some m =
      let w = is_between 1 n q && begins f n t q in
      let l = last_of f n t q in
      let through = λ (p : ℕ). w && (nat_le q p && nat_le p l) in
      let touches = λ (d : ℕ). w && (nat_le q (d + 1) && nat_le d l) in
      let far : w ≡ true → q ≤ l = λ h. let b = beginning f n t q h in omega arith in
      meeting_cases (λ ps. is_among ps q ≡ touches c) c m
      (λ e.
      let start = at_start w q l (λ h. ((beginning f n t q h).from, far h)) in
      ap (λ b. b || false) (is_first_of f n t 1 q (omega arith) some) ∙ subst (λ d. (through 1 || false) ≡ touches d) (sym e) start)
      (λ _ e.
      let end = at_end w q l n (λ h. (beginning f n t q h).upto) in
      ap (λ b. b || false) (is_first_of f n t n q some (omega arith)) ∙ subst (λ d. (through n || false) ≡ touches d) (sym e) end)
      (λ low high e.
      let here = is_first_of f n t c q low m in
      let behind = is_first_of f n t (c + 1) q (omega arith) (omega arith) in
      ap (λ b. b || false) here ∙ at_one w q l c far (sym here ∙ ap (λ p. q == p) e ∙ behind))
      (λ low high _.
      let here = is_first_of f n t c q low m in
      let behind = is_first_of f n t (c + 1) q (omega arith) (omega arith) in
      ap (λ b. b || ((q == first_of f n t (c + 1)) || false)) here ∙ ap (λ b. through c || (b || false)) behind ∙ at_two w q l c far)

  one_rises : (p : ℕ) → IsBeginning f n t p → Rises 1 (n + 1) (p ∷ [])
  one_rises p h = (h.from, omega arith)

  pub meeting_of-rises : (c : ℕ) → 1 ≤ n → c ≤ n → Rises 1 (n + 1) (meeting_of f n t c)
  meeting_of-rises c some m =
      meeting_cases (λ ps. Rises 1 (n + 1) ps) c m
      (λ _. one_rises (first_of f n t 1) (first_begins f n t 1 (omega arith) some))
      (λ _ _. one_rises (first_of f n t n) (first_begins f n t n some (omega arith)))
      (λ low _ _. one_rises (first_of f n t c) (first_begins f n t c low m))
      (λ low high differ.
      let here = first_begins f n t c low m in
      let behind = first_begins f n t (c + 1) (omega arith) (omega arith) in
      let grows = first_of_grows f n t c (c + 1) low (omega arith) in
      (here.from, (omega arith, omega arith)))

  -- ---- the wires that are next to a wire
  apart : (q x : ℕ) → IsBeginning f n t q → IsBeginning f n t x → AreApart q (last_of f n t q) x (last_of f n t x)
  apart q x g h =
      let last = last_of-is f n t q g.upto in
      let end = last_of-is f n t x h.upto in
      let outside : (p r l : ℕ) → IsLast (begins f n t) n p l → IsBeginning f n t r → (r ≤ p) ⊎ (l < r) = λ p r l i b. elim (cases_lt p r) [
        | inr le ↦ inl le
        | inl lt ↦ elim (cases_lt l r) [
          | inl past ↦ inr past
          | inr within ↦ absurd (false≢true (sym (i.none r lt within) ∙ b.begins_here))
        ]
      ] in
      record { from = g.from; far = last.from; after = outside x q (last_of f n t x) end g; before = outside q x (last_of f n t q) last h }

  -- exactly the wires that end just before the wire that begins at x, or begin just behind it
  pub beside_of-is : (x q : ℕ) → IsBeginning f n t x →
      is_among (beside_of f n t x (last_of f n t x)) q ≡
      ((is_between 1 n q && begins f n t q) && (not (q == x) && (nat_le q (last_of f n t x + 1) && nat_le x (last_of f n t q + 1))))
  unfolding beside_of
  beside_of-is x q h =
      let w = is_between 1 n q && begins f n t q in
      let l = last_of f n t q in
      let e = last_of f n t x in
      let end = last_of-is f n t x h.upto in
      let first = first_of f n t (x - 1) in
      let through = w && (nat_le q (x - 1) && nat_le (x - 1) l) in
      let before : (nat_lt 1 x && q == first) ≡ (nat_lt 1 x && through) = elim (cases_lt 1 x) [
        | inl lt ↦ ap (λ b. nat_lt 1 x && b) (is_first_of f n t (x - 1) q (omega arith) (let u = h.upto in omega arith))
        | inr le ↦ and_left (nat_lt 1 x) (q == first) (le-ltb 1 x le) ∙ sym (and_left (nat_lt 1 x) through (le-ltb 1 x le))
      ] in
      among_sides (nat_lt 1 x) (nat_lt e n) first (e + 1) q
      ∙ ap (λ b. b || (nat_lt e n && q == e + 1)) before
      ∙ at_sides w q l x e n end.from (λ held. let b = beginning f n t q held in (apart q x b h, b.upto))
      (λ less same. beginning-test f n t q (subst (IsBeginning f n t) (sym same) (begins_after f n t x h less)))

  pub beside_of-rises : (x : ℕ) → IsBeginning f n t x → Rises 1 (n + 1) (beside_of f n t x (last_of f n t x))
  unfolding beside_of
  beside_of-rises x h =
      let e = last_of f n t x in
      let end = last_of-is f n t x h.upto in
      let before = first_of f n t (x - 1) in
      let behind : List ℕ = cond (nat_lt e n) ((e + 1) ∷ []) [] in
      let rest : Rises (x + 1) (n + 1) behind = cond_both (nat_lt e n) ((e + 1) ∷ []) [] (λ ps. Rises (x + 1) (n + 1) ps)
      (λ b. let less = ltb-true e n b in (omega arith, omega arith)) (λ _. let u = h.upto in omega arith) in
      cond_both (nat_lt 1 x) (before ∷ []) [] (λ ps. Rises 1 (n + 1) (ps ++ behind))
      (λ b.
      let more = ltb-true 1 x b in
      let i = first_of-is f n t (x - 1) (omega arith) in
      (i.from, rises-lower (before + 1) (x + 1) (n + 1) behind (omega arith) rest))
      (λ _. rises-lower 1 (x + 1) (n + 1) behind (omega arith) rest)

  -- ---- what stands in the columns of a channel, the ends of the array among them
  module _ {X : Type 0} (g : ℕ → List X) where
    joined : (ps : List ℕ) → Rises 1 (n + 1) ps → ((q : ℕ) → q < n + 2 → is_among ps q ≡ false → g q ≡ []) → flat_map g (numbers_below (n + 2)) ≡ flat_map g ps
    joined ps r off = joined_below g (n + 2) ps (rises-lower 0 1 (n + 2) ps (omega arith) (rises-higher 1 (n + 1) (n + 2) ps (omega arith) r)) off

    pub meeting_of-joined : (c : ℕ) → 1 ≤ n → c ≤ n → ((q : ℕ) → q < n + 2 → is_among (meeting_of f n t c) q ≡ false → g q ≡ []) →
        flat_map g (numbers_below (n + 2)) ≡ flat_map g (meeting_of f n t c)
    meeting_of-joined c some m off = joined (meeting_of f n t c) (meeting_of-rises c some m) off

    pub beside_of-joined : (x : ℕ) → IsBeginning f n t x → ((q : ℕ) → q < n + 2 → is_among (beside_of f n t x (last_of f n t x)) q ≡ false → g q ≡ []) →
        flat_map g (numbers_below (n + 2)) ≡ flat_map g (beside_of f n t x (last_of f n t x))
    beside_of-joined x h off = joined (beside_of f n t x (last_of f n t x)) (beside_of-rises x h) off
