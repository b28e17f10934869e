-- Tests over the corners of a wire, as tests over its places.
use Rattle.std.proofs.Common.{◌≡◌, ℕ, ◌+◌, ◌-◌, zero, suc, Bool, true, false, List, [], ◌∷◌, refl, ap, ◌∙◌, arith}
use Rattle.std.specs.Prelude.{◌||◌, ◌&&◌, ◌==◌, nat_le}
use Rattle.std.specs.List.{range_with_len, list_any, flat_map}
use Rattle.std.proofs.lemmas.Bool.Decides.{nat_tests}
use Rattle.rr_edges.specs.Edges.{Corner, is_same_corner}

-- corner x is at one of the two ends of place q
abbrev pub is_end : ℕ → ℕ → Bool
is_end x q = (x == q - 1) || (x == q)

or_assoc : (a b c : Bool) → (a || (b || c)) ≡ ((a || b) || c)
or_assoc true b c = refl
or_assoc false b c = refl

pub any_ends : (g : Corner → Bool) (u v : ℕ → Corner) (qs : List ℕ) → list_any g (flat_map (λ q. u q ∷ v q ∷ []) qs) ≡ list_any (λ q. g (u q) || g (v q)) qs
any_ends g u v [] = refl
any_ends g u v (q ∷ qs) = or_assoc (g (u q)) (g (v q)) (list_any g (flat_map (λ q. u q ∷ v q ∷ []) qs)) ∙ ap (λ b. (g (u q) || g (v q)) || b) (any_ends g u v qs)

or_both : (a b c d : Bool) → ((a && c) || (b && c)) || (c && d) ≡ (c && ((a || b) || d))
or_both true b true d = refl
or_both true true false d = refl
or_both true false false d = refl
or_both false true true d = refl
or_both false true false d = refl
or_both false false true d = refl
or_both false false false d = refl

or_both_left : (a b c d : Bool) → ((c && a) || (c && b)) || (c && d) ≡ (c && ((a || b) || d))
or_both_left true true true d = refl
or_both_left true true false d = refl
or_both_left true false true d = refl
or_both_left true false false d = refl
or_both_left false true true d = refl
or_both_left false true false d = refl
or_both_left false false true d = refl
or_both_left false false false d = refl

pub any_above : (x y row : ℕ) (qs : List ℕ) → list_any (λ q. is_same_corner (x, y) (q - 1, row) || is_same_corner (x, y) (q, row)) qs ≡ ((y == row) && list_any (is_end x) qs)
any_above x y row [] = none (y == row)
  where
    none : (c : Bool) → false ≡ (c && false)
    none true = refl
    none false = refl
any_above x y row (q ∷ qs) =
    ap (λ b. (is_same_corner (x, y) (q - 1, row) || is_same_corner (x, y) (q, row)) || b) (any_above x y row qs) ∙ or_both (x == q - 1) (x == q) (y == row) (list_any (is_end x) qs)

pub any_right : (x y column : ℕ) (qs : List ℕ) → list_any (λ q. is_same_corner (x, y) (column, q - 1) || is_same_corner (x, y) (column, q)) qs ≡ ((x == column) && list_any (is_end y) qs)
any_right x y column [] = none (x == column)
  where
    none : (c : Bool) → false ≡ (c && false)
    none true = refl
    none false = refl
any_right x y column (q ∷ qs) =
    ap (λ b. (is_same_corner (x, y) (column, q - 1) || is_same_corner (x, y) (column, q)) || b) (any_right x y column qs) ∙ or_both_left (y == q - 1) (y == q) (x == column) (list_any (is_end y) qs)

one_end : (x p : ℕ) → (is_end x p || false) ≡ (nat_le p (x + 1) && nat_le x (p + 0))
one_end x p = grind (arith, nat_tests)

more_end : (x p k : ℕ) → (is_end x p || (nat_le (p + 1) (x + 1) && nat_le x (p + 1 + k))) ≡ (nat_le p (x + 1) && nat_le x (p + suc k))
more_end x p k = grind (arith, nat_tests)

-- the ends of the places from p on are the corners from p - 1 to the last place
pub any_end : (x p k : ℕ) → list_any (is_end x) (range_with_len p (suc k)) ≡ (nat_le p (x + 1) && nat_le x (p + k))
any_end x p zero = one_end x p
any_end x p (suc k) = ap (λ b. is_end x p || b) (any_end x (p + 1) k) ∙ more_end x p k

-- the corners that a wire touches, by its first place and its steps
pub above_touches : (x y row p k : ℕ) → list_any (is_same_corner (x, y)) (flat_map (λ q. (q - 1, row) ∷ (q, row) ∷ []) (range_with_len p (k + 1))) ≡ ((y == row) && (nat_le p (x + 1) && nat_le x (p + k)))
above_touches x y row p k =
    any_ends (is_same_corner (x, y)) (λ q. (q - 1, row)) (λ q. (q, row)) (range_with_len p (k + 1))
    ∙ any_above x y row (range_with_len p (k + 1)) ∙ ap (λ n. (y == row) && list_any (is_end x) (range_with_len p n)) (let e : k + 1 ≡ suc k = omega arith in e)
    ∙ ap (λ b. (y == row) && b) (any_end x p k)

pub right_touches : (x y column p k : ℕ) → list_any (is_same_corner (x, y)) (flat_map (λ q. (column, q - 1) ∷ (column, q) ∷ []) (range_with_len p (k + 1))) ≡ ((x == column) && (nat_le p (y + 1) && nat_le y (p + k)))
right_touches x y column p k =
    any_ends (is_same_corner (x, y)) (λ q. (column, q - 1)) (λ q. (column, q)) (range_with_len p (k + 1))
    ∙ any_right x y column (range_with_len p (k + 1)) ∙ ap (λ n. (x == column) && list_any (is_end y) (range_with_len p n)) (let e : k + 1 ≡ suc k = omega arith in e)
    ∙ ap (λ b. (x == column) && b) (any_end y p k)
