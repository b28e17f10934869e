-- When two wires join, as tests on the places that they pass.
use Rattle.std.proofs.Common.{◌≡◌, ℕ, ◌+◌, ◌-◌, ◌≤◌, zero, suc, inl, inr, Bool, true, false, List, [], ◌∷◌, refl, sym, ap, ◌∙◌, subst, arith}
use Rattle.std.specs.Prelude.{◌||◌, ◌&&◌, ◌==◌, not, nat_le}
use Rattle.std.specs.List.{range_with_len, list_any, flat_map}
use Rattle.std.proofs.Math.Bool.{and-or_distrib_left}
use Rattle.std.proofs.lemmas.Bool.{cases_eq, eq-eqb, ne_eqb, false≢true}
use Rattle.std.proofs.lemmas.Bool.Decides.{nat_tests}
use Rattle.channel_tables.specs.declared.node.Kind.{Kind}
use Rattle.channel_tables.specs.declared.node.Kind.TheVariants.{Chanx, Chany}
use Rattle.channel_tables.specs.Fabric.{Fabric}
use Rattle.channel_tables.specs.Wires.{steps_of, last_of}
use Rattle.node_numbers.specs.Nodes.{node_of, is_same}
use Rattle.rr_edges.specs.Edges.{Corner, corners_of, touches, joins, is_edge}
use Rattle.rr_edges.proofs.Corners.{any_ends, any_end, above_touches, right_touches}

-- ---- tests over the places of a wire
pub any_same : {X : Type 0} (p q : X → Bool) → ((x : X) → p x ≡ q x) → (xs : List X) → list_any p xs ≡ list_any q xs
any_same p q h [] = refl
any_same p q h (x ∷ xs) = ap (λ b. b || list_any p xs) (h x) ∙ ap (λ b. q x || b) (any_same p q h xs)

any_both : {X : Type 0} (c : Bool) (p : X → Bool) (xs : List X) → list_any (λ x. c && p x) xs ≡ (c && list_any p xs)
any_both true p xs = refl
any_both false p [] = refl
any_both false p (x ∷ xs) = any_both false p xs

-- corner u is at an end of a place from p to l
abbrev is_end_of : (p l u : ℕ) → Bool
is_end_of p l u = nat_le p (u + 1) && nat_le u l

one_meets : (p l x : ℕ) → p ≤ l → ((is_end_of p l (x - 1) || is_end_of p l x) || false) ≡ (nat_le p (x + 0 + 1) && nat_le x (l + 1))
one_meets p l x h = grind (arith, nat_tests)

more_meet : (p l x k : ℕ) → p ≤ l →
    ((is_end_of p l (x - 1) || is_end_of p l x) || (nat_le p (x + 1 + k + 1) && nat_le (x + 1) (l + 1))) ≡ (nat_le p (x + suc k + 1) && nat_le x (l + 1))
more_meet p l x k h = grind (arith, nat_tests)

any_meets : (p l x k : ℕ) → p ≤ l →
    list_any (λ q. is_end_of p l (q - 1) || is_end_of p l q) (range_with_len x (suc k)) ≡ (nat_le p (x + k + 1) && nat_le x (l + 1))
any_meets p l x zero h = one_meets p l x h
any_meets p l x (suc k) h = ap (λ b. (is_end_of p l (x - 1) || is_end_of p l x) || b) (any_meets p l (x + 1) k h) ∙ more_meet p l x k h

-- a test over the corners of a wire, which are on one line
on_line : (g : Corner → Bool) (at : ℕ → Corner) (x k : ℕ) (c : Bool) (e : ℕ → Bool) → ((u : ℕ) → g (at u) ≡ (c && e u)) →
    list_any g (flat_map (λ q. at (q - 1) ∷ at q ∷ []) (range_with_len x (k + 1))) ≡ (c && list_any (λ q. e (q - 1) || e q) (range_with_len x (suc k)))
on_line g at x k c e h =
    let more : k + 1 ≡ suc k = omega arith in
    let either = λ (q : ℕ). e (q - 1) || e q in
    any_ends g (λ q. at (q - 1)) at (range_with_len x (k + 1))
    ∙ any_same (λ q. g (at (q - 1)) || g (at q)) (λ q. c && either q)
    (λ q. ap (λ b. b || g (at q)) (h (q - 1)) ∙ ap (λ b. (c && e (q - 1)) || b) (h q) ∙ sym (and-or_distrib_left c (e (q - 1)) (e q))) (range_with_len x (k + 1))
    ∙ any_both c either (range_with_len x (k + 1)) ∙ ap (λ n. c && list_any either (range_with_len x n)) more

-- ---- two wires of one track
kept : (a b c d : Bool) → d ≡ true → (a && b) ≡ c → ((a && d) && b) ≡ (d && c)
kept a b c d t h = grind arith

dropped : (a b c d e : Bool) → d ≡ false → e ≡ false → ((a && d) && b) ≡ (e && c)
dropped a b c d e t h = grind arith

on_track : (s t : ℕ) (same meets : ℕ → Bool) (c : Bool) → (not (same t) && meets t) ≡ c → ((not (same s) && t == s) && meets s) ≡ ((s == t) && c)
on_track s t same meets c h = elim (cases_eq s t) [
  | inl e ↦ subst (λ r. ((not (same r) && t == r) && meets r) ≡ ((r == t) && c)) (sym e) (kept (not (same t)) (meets t) c (t == t) (eq-eqb t t refl) h)
  | inr differ ↦ dropped (not (same s)) (meets s) c (t == s) (s == t) (ne_eqb t s (λ e. differ (sym e))) (ne_eqb s t differ)
]

different : (x y p r t : ℕ) (m : Bool) → (not (x == p && (y == r && t == t)) && ((y == r) && m)) ≡ ((r == y) && (not (p == x) && m))
different x y p r t m = grind (arith, nat_tests)

different_column : (x y p r t : ℕ) (m : Bool) → (not (x == p && (y == r && t == t)) && ((x == p) && m)) ≡ ((p == x) && (not (r == y) && m))
different_column x y p r t m = grind (arith, nat_tests)

turned : (u c : ℕ) (m : Bool) → ((u == c) && m) ≡ (m && c == u)
turned u c m = grind (arith, nat_tests)

swapped : (a b : Bool) → (a && b) ≡ (b && a)
swapped a b = grind arith

module _ (f : Fabric) (x y t p r : ℕ) where
  -- where two wires touch a common corner
  row_meets_row : (s : ℕ) → list_any (touches f (node_of Chanx p r s)) (corners_of f (node_of Chanx x y t)) ≡
      ((y == r) && (nat_le p (last_of f f.nx t x + 1) && nat_le x (last_of f f.nx s p + 1)))
  unfolding corners_of touches
  row_meets_row s =
      let steps = steps_of f f.nx s p in
      on_line (touches f (node_of Chanx p r s)) (λ u. (u, y)) x (steps_of f f.nx t x) (y == r) (is_end_of p (p + steps)) (λ u. above_touches u y r p steps)
      ∙ ap (λ b. (y == r) && b) (any_meets p (p + steps) x (steps_of f f.nx t x) (omega arith))

  row_meets_column : (s : ℕ) → list_any (touches f (node_of Chany p r s)) (corners_of f (node_of Chanx x y t)) ≡
      ((nat_le x (p + 1) && nat_le p (last_of f f.nx t x)) && (nat_le r (y + 1) && nat_le y (last_of f f.ny s r)))
  unfolding corners_of touches
  row_meets_column s =
      let steps = steps_of f f.ny s r in
      let m = nat_le r (y + 1) && nat_le y (r + steps) in
      on_line (touches f (node_of Chany p r s)) (λ u. (u, y)) x (steps_of f f.nx t x) m (λ u. p == u) (λ u. right_touches u y p r steps ∙ turned u p m)
      ∙ ap (λ b. m && b) (any_end p x (steps_of f f.nx t x)) ∙ swapped m (nat_le x (p + 1) && nat_le p (last_of f f.nx t x))

  column_meets_row : (s : ℕ) → list_any (touches f (node_of Chanx p r s)) (corners_of f (node_of Chany x y t)) ≡
      ((nat_le y (r + 1) && nat_le r (last_of f f.ny t y)) && (nat_le p (x + 1) && nat_le x (last_of f f.nx s p)))
  unfolding corners_of touches
  column_meets_row s =
      let steps = steps_of f f.nx s p in
      let m = nat_le p (x + 1) && nat_le x (p + steps) in
      on_line (touches f (node_of Chanx p r s)) (λ v. (x, v)) y (steps_of f f.ny t y) m (λ v. r == v) (λ v. above_touches x v r p steps ∙ turned v r m)
      ∙ ap (λ b. m && b) (any_end r y (steps_of f f.ny t y)) ∙ swapped m (nat_le y (r + 1) && nat_le r (last_of f f.ny t y))

  column_meets_column : (s : ℕ) → list_any (touches f (node_of Chany p r s)) (corners_of f (node_of Chany x y t)) ≡
      ((x == p) && (nat_le r (last_of f f.ny t y + 1) && nat_le y (last_of f f.ny s r + 1)))
  unfolding corners_of touches
  column_meets_column s =
      let steps = steps_of f f.ny s r in
      on_line (touches f (node_of Chany p r s)) (λ v. (x, v)) y (steps_of f f.ny t y) (x == p) (is_end_of r (r + steps)) (λ v. right_touches x v p r steps)
      ∙ ap (λ b. (x == p) && b) (any_meets r (r + steps) y (steps_of f f.ny t y) (omega arith))

  pub chanx_joins_chanx : (s : ℕ) → joins f (node_of Chanx x y t) (node_of Chanx p r s) ≡
      ((s == t) && ((r == y) && (not (p == x) && (nat_le p (last_of f f.nx t x + 1) && nat_le x (last_of f f.nx t p + 1)))))
  unfolding joins is_same
  chanx_joins_chanx s =
      let a = node_of Chanx x y t in
      let b = λ (s : ℕ). node_of Chanx p r s in
      let m = nat_le p (last_of f f.nx t x + 1) && nat_le x (last_of f f.nx t p + 1) in
      on_track s t (λ s. is_same a (b s)) (λ s. list_any (touches f (b s)) (corners_of f a)) ((r == y) && (not (p == x) && m))
      (ap (λ c. not (is_same a (b t)) && c) (row_meets_row t) ∙ different x y p r t m)

  pub chanx_joins_chany : (s : ℕ) → joins f (node_of Chanx x y t) (node_of Chany p r s) ≡
      ((s == t) && ((nat_le x (p + 1) && nat_le p (last_of f f.nx t x)) && (nat_le r (y + 1) && nat_le y (last_of f f.ny t r))))
  unfolding joins is_same
  chanx_joins_chany s =
      let a = node_of Chanx x y t in
      let b = λ (s : ℕ). node_of Chany p r s in
      on_track s t (λ s. is_same a (b s)) (λ s. list_any (touches f (b s)) (corners_of f a)) _ (row_meets_column t)

  pub chany_joins_chanx : (s : ℕ) → joins f (node_of Chany x y t) (node_of Chanx p r s) ≡
      ((s == t) && ((nat_le y (r + 1) && nat_le r (last_of f f.ny t y)) && (nat_le p (x + 1) && nat_le x (last_of f f.nx t p))))
  unfolding joins is_same
  chany_joins_chanx s =
      let a = node_of Chany x y t in
      let b = λ (s : ℕ). node_of Chanx p r s in
      on_track s t (λ s. is_same a (b s)) (λ s. list_any (touches f (b s)) (corners_of f a)) _ (column_meets_row t)

  pub chany_joins_chany : (s : ℕ) → joins f (node_of Chany x y t) (node_of Chany p r s) ≡
      ((s == t) && ((p == x) && (not (r == y) && (nat_le r (last_of f f.ny t y + 1) && nat_le y (last_of f f.ny t r + 1)))))
  unfolding joins is_same
  chany_joins_chany s =
      let a = node_of Chany x y t in
      let b = λ (s : ℕ). node_of Chany p r s in
      let m = nat_le r (last_of f f.ny t y + 1) && nat_le y (last_of f f.ny t r + 1) in
      on_track s t (λ s. is_same a (b s)) (λ s. list_any (touches f (b s)) (corners_of f a)) ((p == x) && (not (r == y) && m))
      (ap (λ c. not (is_same a (b t)) && c) (column_meets_column t) ∙ different_column x y p r t m)

-- between wires an edge is a join
abbrev pub is_wire : Kind → Bool
is_wire Chanx = true
is_wire Chany = true
is_wire _ = false

pub edge_joins : (j k : Kind) → is_wire j ≡ true → is_wire k ≡ true → (f : Fabric) (x y t p r s : ℕ) →
    is_edge f (node_of j x y t) (node_of k p r s) ≡ joins f (node_of j x y t) (node_of k p r s)
unfolding is_edge
edge_joins Chanx Chanx g h f x y t p r s = refl
edge_joins Chanx Chany g h f x y t p r s = refl
edge_joins Chany Chanx g h f x y t p r s = refl
edge_joins Chany Chany g h f x y t p r s = refl
edge_joins Chanx _ g h f x y t p r s = absurd (false≢true h)
edge_joins Chany _ g h f x y t p r s = absurd (false≢true h)
edge_joins _ k g h f x y t p r s = absurd (false≢true g)
