-- Ranges of numbers, one number more, and tests over a list in which one element is exchanged.
use Rattle.std.proofs.Common.{◌≡◌, ℕ, ◌+◌, ◌<◌, zero, suc, Bool, List, [], ◌∷◌, ◌++◌, length, get_or, sym, ap, ◌∙◌, arith, zero-add}
use Rattle.std.specs.Prelude.{◌||◌}
use Rattle.std.specs.List.{list_any, range_with_len}
use Rattle.std.proofs.Math.ListN.{set}
use Rattle.std.proofs.Math.Bool.{or_assoc, or_comm}

pub range_more : (a n : ℕ) → range_with_len a (n + 1) ≡ range_with_len a n ++ (a + n) ∷ []
range_more a zero = let e : a ≡ a + 0 = omega arith in ap (λ b. b ∷ []) e
range_more a (suc n) =
    let e : suc n + 1 ≡ suc (n + 1) = omega arith in
    let s : a + 1 + n ≡ a + suc n = omega arith in
    ap (range_with_len a) e ∙ ap (λ ys. a ∷ ys) (range_more (a + 1) n ∙ ap (λ b. range_with_len (a + 1) n ++ b ∷ []) s)

pub below_next : (n : ℕ) → range_with_len 0 (n + 1) ≡ range_with_len 0 n ++ n ∷ []
below_next n = range_more 0 n ∙ ap (λ b. range_with_len 0 n ++ b ∷ []) (zero-add n)

or_swap : (a b c : Bool) → (a || (b || c)) ≡ (b || (a || c))
or_swap a b c = sym (or_assoc a b c) ∙ ap (λ d. d || c) (or_comm a b) ∙ or_assoc b a c

pub any_set : {X : Type 0} (test : X → Bool) (b : Bool) (xs : List X) (i : ℕ) (d v : X) → i < length xs → test v ≡ (b || test (get_or xs i d)) → list_any test (set xs i v) ≡ (b || list_any test xs)
any_set test b [] i d v l e = absurd (omega arith)
any_set test b (x ∷ xs) zero d v l e = ap (λ a. a || list_any test xs) e ∙ or_assoc b (test x) (list_any test xs)
any_set test b (x ∷ xs) (suc i) d v l e = ap (λ a. test x || a) (any_set test b xs i d v (omega arith) e) ∙ or_swap (test x) b (list_any test xs)
