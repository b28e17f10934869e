-- All bytes of a number are digits, and there is one.
use Rattle.std.proofs.Common.{◌≡◌, ℕ, zero, suc, ◌+◌, ◌<◌, ◌≤◌, ◌%◌, ◌/◌, Bool, true, false, cond, ◌&&◌, List, [], ◌∷◌, eqb, decimal, refl, ap, ◌∙◌, arith}
use Rattle.std.specs.List.{list_all}
use Rattle.std.specs.Fmt.{digits, digits_onto, digit_glyph}
use Rattle.std.proofs.lemmas.Bool.{lt-ltb}

glyph : (p : ℕ → Bool) → ((b : ℕ) → 48 ≤ b → b ≤ 57 → p b ≡ true) → (n : ℕ) → p (digit_glyph false (n % 10)) ≡ true
glyph p f n =
    let small : n % 10 < 10 = omega arith in
    rw (lt-ltb (n % 10) 10 small) (f (48 + n % 10) (omega arith) (omega arith))

either_passes : (p : ℕ → Bool) (b : Bool) (xs ys : List ℕ) → list_all p xs ≡ true → list_all p ys ≡ true → list_all p (cond b xs ys) ≡ true
either_passes p true xs ys h k = h
either_passes p false xs ys h k = k

onto_by : (p : ℕ → Bool) → ((b : ℕ) → 48 ≤ b → b ≤ 57 → p b ≡ true) → (k n : ℕ) (acc : List ℕ) → list_all p acc ≡ true → list_all p (digits_onto k 10 false n acc) ≡ true
onto_by p f zero n acc h = h
onto_by p f (suc k) n acc h =
    let more : list_all p (digit_glyph false (n % 10) ∷ acc) ≡ true = ap (λ t. t && list_all p acc) (glyph p f n) ∙ h in
    either_passes p (eqb (n / 10) 0) (digit_glyph false (n % 10) ∷ acc) (digits_onto k 10 false (n / 10) (digit_glyph false (n % 10) ∷ acc)) more
    (onto_by p f k (n / 10) (digit_glyph false (n % 10) ∷ acc) more)

pub all_digits : (p : ℕ → Bool) → ((b : ℕ) → 48 ≤ b → b ≤ 57 → p b ≡ true) → (n : ℕ) → list_all p (decimal n) ≡ true
unfolding digits
all_digits p f n = onto_by p f 64 n [] refl
