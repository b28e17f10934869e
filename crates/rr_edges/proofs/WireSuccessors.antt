-- The successors of a wire at one place, and lists joined over places of which only some give any
-- elements.
use Rattle.std.proofs.Common.{◌≡◌, ℕ, ◌+◌, ◌-◌, ◌<◌, ◌≤◌, ◌≢◌, Bool, true, false, cond, List, [], ◌∷◌, ◌++◌, refl, ap, ◌∙◌, arith}
use Rattle.std.specs.Prelude.{◌==◌, ◌&&◌, nat_le, nat_lt}
use Rattle.std.specs.List.{range_with_len, flat_map}
use Rattle.std.proofs.lemmas.Bool.{or_left, or_right, eq-eqb, lt-ltb}
use Rattle.std.proofs.lemmas.Bool.Decides.{nat_tests}
use Rattle.channel_tables.specs.declared.node.Kind.TheVariants.{Chanx, Chany}
use Rattle.channel_tables.specs.declared.node.Node.{Node}
use Rattle.channel_tables.specs.Fabric.{Fabric, numbers_below, is_between}
use Rattle.channel_tables.specs.Wires.{tracks_in, begins, last_of}
use Rattle.node_numbers.specs.Nodes.{numbers_at, node_of}
use Rattle.rr_edges.specs.Edges.{is_edge}
use Rattle.channel_tables.specs.Picks.{picks}
use Rattle.rr_edges.specs.kept.Channels.{meeting_of, beside_of}
use Rattle.node_numbers.specs.Starts.{place_start}
use Rattle.rr_edges.specs.kept.Pieces.{pieces_at}
use Rattle.node_numbers.specs.kept.WireIds.{wire_id}
use Rattle.channel_tables.proofs.Windows.{flat_map_none, flat_map_window, flat_map_agree}
use Rattle.channel_tables.proofs.Picks.{picks_agree, picks_filtered}
use Rattle.channel_tables.proofs.TrackWires.{is_among, IsBeginning}
use Rattle.rr_edges.proofs.Meetings.{meeting_of-joined, beside_of-joined}

-- ---- lists joined over places of which only some give any elements
module _ {X : Type 0} (g h : ℕ → List X) where
  agree_among : (ps : List ℕ) → ((q : ℕ) → is_among ps q ≡ true → g q ≡ h q) → flat_map g ps ≡ flat_map h ps
  agree_among [] e = refl
  agree_among (p ∷ ps) e =
      ap (λ xs. xs ++ flat_map g ps) (e p (or_left (p == p) (is_among ps p) (eq-eqb p p refl)))
      ∙ ap (λ xs. h p ++ xs) (agree_among ps (λ q m. e q (or_right (q == p) (is_among ps q) m)))

  -- only the places of a window, and these only under a condition
  pub window_joined :
      (low len n : ℕ) (b : Bool) → low + len ≤ n → ((k : ℕ) → g k ≡ cond (b && (nat_le low k && nat_lt k (low + len))) (h k) [])
      → flat_map g (numbers_below n) ≡ cond b (flat_map h (range_with_len low len)) []
  window_joined low len n false l e = flat_map_none g n (λ k _. e k)
  window_joined low len n true l e =
      let off : (k : ℕ) → (nat_le low k && nat_lt k (low + len)) ≡ false → g k ≡ [] = λ k m. e k ∙ ap (λ b. cond b (h k) []) m in
      flat_map_window g low len n l (λ k m. off k (grind (arith, nat_tests))) (λ k m _. off k (grind (arith, nat_tests)))
      ∙ flat_map_agree g h low len (λ k m r.
      let on : (nat_le low k && nat_lt k (low + len)) ≡ true = grind (arith, nat_tests) in
      e k ∙ ap (λ b. cond b (h k) []) on)

  -- only the wires of a track that meet at a corner, and these only under a condition
  pub meeting_joined :
      (f : Fabric) (n t c : ℕ) (b : Bool) → 1 ≤ n → c ≤ n → ((q : ℕ) → g q ≡ cond (b && is_among (meeting_of f n t c) q) (h q) [])
      → flat_map g (numbers_below (n + 2)) ≡ cond b (flat_map h (meeting_of f n t c)) []
  meeting_joined f n t c true some m e =
      let ps = meeting_of f n t c in
      meeting_of-joined f n t g c some m (λ q _ off. e q ∙ ap (λ b. cond b (h q) []) off)
      ∙ agree_among ps (λ q on. e q ∙ ap (λ b. cond b (h q) []) on)
  meeting_joined f n t c false some m e = flat_map_none g (n + 2) (λ q _. e q)

  -- only the wires next to a wire
  pub beside_joined :
      (f : Fabric) (n t x : ℕ) → IsBeginning f n t x → ((q : ℕ) → g q ≡ cond (is_among (beside_of f n t x (last_of f n t x)) q) (h q) [])
      → flat_map g (numbers_below (n + 2)) ≡ flat_map h (beside_of f n t x (last_of f n t x))
  beside_joined f n t x here e =
      let ps = beside_of f n t x (last_of f n t x) in
      beside_of-joined f n t g x here (λ q _ off. e q ∙ ap (λ b. cond b (h q) []) off)
      ∙ agree_among ps (λ q on. e q ∙ ap (λ b. cond b (h q) []) on)

-- ---- tests on the place of a wire
pub same_line : (w d : Bool) (y n : ℕ) → y ≤ n → ((w && nat_le y n) && ((y == y) && d)) ≡ (w && d)
same_line w d y n h = grind (arith, nat_tests)

pub other_line : (w b d : Bool) (r y : ℕ) → r ≢ y → ((w && b) && ((r == y) && d)) ≡ false
other_line w b d r y h = grind (arith, nat_tests)

-- the places that the corners of a wire lie on
pub steps_reached : (p x steps n : ℕ) → 1 ≤ x → x + steps ≤ n →
    (nat_le p n && (nat_le x (p + 1) && nat_le p (x + steps))) ≡ (nat_le (x - 1) p && nat_lt p (x - 1 + (steps + 2)))
steps_reached p x steps n l m = grind (arith, nat_tests)

-- the places that it passes
pub steps_passed : (p x steps : ℕ) → (nat_le x p && nat_le p (x + steps)) ≡ (nat_le x p && nat_lt p (x + (steps + 1)))
steps_passed p x steps = grind (arith, nat_tests)

-- ---- the wires of a track at one place
picks_within : {X : Type 0} (test : X → Bool) (i : ℕ) (b : Bool) (xs : List X) → picks test i (cond b xs []) ≡ cond b (picks test i xs) []
picks_within test i true xs = refl
picks_within test i false xs = refl

in_channel : (a b r below c : Bool) (zs : List ℕ) → below ≡ true → cond (a && r) (cond (b && (below && c)) zs []) [] ≡ cond (((a && b) && r) && c) zs []
in_channel a b r below c zs h = grind arith

across : (a b r below c : Bool) (zs : List ℕ) → below ≡ true → cond (r && a) (cond (b && (below && c)) zs []) [] ≡ cond (((a && b) && r) && c) zs []
across a b r below c zs h = grind arith

module _ (f : Fabric) (a : Node) (t p r : ℕ) (c : Bool) (below : t < tracks_in f.mode f.width) where
  -- a wire begins there if its channel is of the device, and if the track has a beginning at the
  -- place
  pub row_piece :
      ((s : ℕ) → is_edge f a (node_of Chanx p r s) ≡ ((s == t) && c))
      → pieces_at f a Chanx p r ≡ cond (((is_between 1 f.nx p && begins f f.nx t p) && nat_le r f.ny) && c) (wire_id f Chanx p r t ∷ []) []
  unfolding pieces_at numbers_at wire_id
  row_piece e =
      let start = place_start f Chanx p r in
      picks_agree (λ n. is_edge f a (node_of Chanx p r n)) (λ n. (n == t) && c) e start (numbers_at f Chanx p r)
      ∙ picks_within (λ n. (n == t) && c) start (is_between 1 f.nx p && nat_le r f.ny) _
      ∙ ap (λ zs. cond (is_between 1 f.nx p && nat_le r f.ny) zs []) (picks_filtered (λ s. begins f f.nx s p) c t start (tracks_in f.mode f.width))
      ∙ in_channel (is_between 1 f.nx p) (begins f f.nx t p) (nat_le r f.ny) _ c _ (lt-ltb t (tracks_in f.mode f.width) below)

  pub column_piece :
      ((s : ℕ) → is_edge f a (node_of Chany p r s) ≡ ((s == t) && c))
      → pieces_at f a Chany p r ≡ cond (((is_between 1 f.ny r && begins f f.ny t r) && nat_le p f.nx) && c) (wire_id f Chany p r t ∷ []) []
  unfolding pieces_at numbers_at wire_id
  column_piece e =
      let start = place_start f Chany p r in
      picks_agree (λ n. is_edge f a (node_of Chany p r n)) (λ n. (n == t) && c) e start (numbers_at f Chany p r)
      ∙ picks_within (λ n. (n == t) && c) start (nat_le p f.nx && is_between 1 f.ny r) _
      ∙ ap (λ zs. cond (nat_le p f.nx && is_between 1 f.ny r) zs []) (picks_filtered (λ s. begins f f.ny s r) c t start (tracks_in f.mode f.width))
      ∙ across (is_between 1 f.ny r) (begins f f.ny t r) (nat_le p f.nx) _ c _ (lt-ltb t (tracks_in f.mode f.width) below)
