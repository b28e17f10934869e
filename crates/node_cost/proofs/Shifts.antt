-- Shifts and masks as numbers of four bits in a word.
use Rattle.std.proofs.Common.{◌≡◌, ◌≢◌, ℕ, zero, suc, ◌+◌, ◌-◌, ◌*◌, ◌/◌, ◌%◌, ◌^◌, ◌<◌, ◌≤◌, refl, sym, ◌∙◌, ap, arith}
use Rattle.std.proofs.lemmas.Nat.{shr-shr, pow-add, shl_whole, and_mask}
use Rattle.std.proofs.Math.Nat.{mul_left_comm, pow-succ'}
use Rattle.std.specs.Int.Bits.{bit_and}
use Rattle.node_cost.specs.kept.Words.{number_at, IsPut}

-- the next place is four bits further
shift_next : (place : ℕ) → 4 * suc place ≡ 4 + 4 * place
shift_next p = omega arith

shifted_next : (x place : ℕ) → x * 2 ^ (4 * suc place) ≡ 16 * (x * 2 ^ (4 * place))
shifted_next x p = ap (λ k. x * 2 ^ k) (shift_next p) ∙ (ap (λ q. x * q) (pow-add 2 4 (4 * p)) ∙ mul_left_comm x (2 ^ 4) (2 ^ (4 * p)))

number_shifted : (word place : ℕ) → word / 2 ^ (4 * place) % 16 ≡ number_at word place
unfolding number_at
number_shifted word zero = omega arith
number_shifted word (suc p) =
    ap (λ k. word / 2 ^ k % 16) (shift_next p) ∙ (ap (λ q. q % 16) (sym (shr-shr word 4 (4 * p))) ∙ number_shifted (word / 16) p)

pub number_below : (word place : ℕ) → number_at word place < 16
unfolding number_at
number_below word zero = omega arith
number_below word (suc p) = number_below (word / 16) p

-- the number at a place, shifted there, is at most the word
number_within : (word place : ℕ) → number_at word place * 2 ^ (4 * place) ≤ word
unfolding number_at
number_within word zero = omega arith
number_within word (suc p) = omega (arith, shifted_next (number_at (word / 16) p) p, number_within (word / 16) p)

-- the new word is the old one without its number at the place, plus this number there
abbrev IsExchanged : (place number word new : ℕ) → Type 0
IsExchanged place number word new = new + number_at word place * 2 ^ (4 * place) ≡ word + number * 2 ^ (4 * place)

here : (place word new number : ℕ) → number < 16 → IsExchanged place number word new → number_at new place ≡ number
unfolding number_at
here zero word new n b e = omega arith
here (suc p) word new n b e =
    here p (word / 16) (new / 16) n b (omega (arith, shifted_next (number_at (word / 16) p) p, shifted_next n p))

elsewhere : (k place word new number : ℕ) → number < 16 → IsExchanged place number word new → k ≢ place → number_at new k ≡ number_at word k
unfolding number_at
elsewhere zero zero word new n b e d = absurd (d refl)
elsewhere (suc k) zero word new n b e d = ap (λ w. number_at w k) (omega arith)
elsewhere zero (suc p) word new n b e d = omega (arith, shifted_next (number_at (word / 16) p) p, shifted_next n p)
elsewhere (suc k) (suc p) word new n b e d =
    elsewhere k p (word / 16) (new / 16) n b (omega (arith, shifted_next (number_at (word / 16) p) p, shifted_next n p)) (λ same. d (ap suc same))

put_there : (place word new number : ℕ) → number < 16 → IsExchanged place number word new → IsPut place number word new
put_there p word new n b e = record { here = here p word new n b e; elsewhere = λ k d. elsewhere k p word new n b e d }

-- a word of so many places keeps to them
put_fits : (places place word new number : ℕ) → number < 16 → place < places → word < 16 ^ places → IsExchanged place number word new →
    new < 16 ^ places
unfolding number_at
put_fits zero p word new n b l w e = absurd (omega arith)
put_fits (suc m) zero word new n b l w e = omega (arith, pow-succ' 16 m)
put_fits (suc m) (suc p) word new n b l w e =
    let next = put_fits m p (word / 16) (new / 16) n b (omega arith) (omega (arith, pow-succ' 16 m))
    (omega (arith, shifted_next (number_at (word / 16) p) p, shifted_next n p)) in
    omega (arith, pow-succ' 16 m, next)

-- four bits that are shifted to their place stay within the word
shifted_whole : (number place : ℕ) → number < 16 → place < 16 → number * 2 ^ (4 * place) % 2 ^ 64 ≡ number * 2 ^ (4 * place)
shifted_whole n p b l = shl_whole n 4 (4 * p) 64 b (omega arith)

-- the number at a place can be subtracted
pub taken_within : (word place taken : ℕ) → place < 16 → taken ≡ number_at word place → taken * 2 ^ (4 * place) % 2 ^ 64 ≤ word
taken_within word p taken l e =
    let whole = shifted_whole (number_at word p) p (number_below word p) l in
    rw (e, whole) (number_within word p)

-- the word that the shifts of the code make
exchanged : (word place taken number : ℕ) → place < 16 → taken ≡ number_at word place → number < 16 →
    IsExchanged place number word (word - taken * 2 ^ (4 * place) % 2 ^ 64 + number * 2 ^ (4 * place) % 2 ^ 64)
exchanged word p taken n l e b =
    let old = shifted_whole (number_at word p) p (number_below word p) l in
    let new = shifted_whole n p b l in
    rw (e, old, new) (omega (arith, number_within word p))

pub put_within : (word place taken number : ℕ) → word < 2 ^ 64 → place < 16 → taken ≡ number_at word place → number < 16 →
    word - taken * 2 ^ (4 * place) % 2 ^ 64 + number * 2 ^ (4 * place) % 2 ^ 64 < 2 ^ 64
put_within word p taken n w l e b = put_fits 16 p word _ n b l w (exchanged word p taken n l e b)

pub put_is : (word place taken number : ℕ) → place < 16 → taken ≡ number_at word place → number < 16 →
    IsPut place number word (word - taken * 2 ^ (4 * place) % 2 ^ 64 + number * 2 ^ (4 * place) % 2 ^ 64)
put_is word p taken n l e b = put_there p word _ n b (exchanged word p taken n l e b)

-- the mask of 15
pub number_masked : (word place : ℕ) → bit_and (word / 2 ^ (4 * place)) 15 ≡ number_at word place
number_masked word p = and_mask (word / 2 ^ (4 * p)) 4 ∙ number_shifted word p

-- ---- two words whose numbers add up without a carry
pub added : (places a b : ℕ) → ((p : ℕ) → p < places → number_at a p + number_at b p < 16) → (p : ℕ) → p < places → number_at (a + b) p ≡ number_at a p + number_at b p
unfolding number_at
added zero a b fit p l = absurd (omega (arith, l))
added (suc m) a b fit zero l = let first = fit zero (omega arith) in omega (arith, first)
added (suc m) a b fit (suc p) l =
    let first = fit zero (omega arith) in
    let e : (a + b) / 16 ≡ a / 16 + b / 16 = omega (arith, first) in
    ap (λ w. number_at w p) e ∙ added m (a / 16) (b / 16) (λ q few. fit (suc q) (omega (arith, few))) p (omega (arith, l))

pub added_within : (places a b : ℕ) → ((p : ℕ) → p < places → number_at a p + number_at b p < 16) → a < 16 ^ places → b < 16 ^ places → a + b < 16 ^ places
unfolding number_at
added_within zero a b fit few less = omega (arith, few, less)
added_within (suc m) a b fit few less =
    let first = fit zero (omega arith) in
    let rest = added_within m (a / 16) (b / 16) (λ q l. fit (suc q) (omega (arith, l))) (omega (arith, few, pow-succ' 16 m)) (omega (arith, less, pow-succ' 16 m)) in
    omega (arith, first, rest, pow-succ' 16 m)
