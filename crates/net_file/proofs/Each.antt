-- What holds of each element of lists that are made from numbers.
use Rattle.std.proofs.Common.{◌≡◌, ℕ, zero, suc, ◌+◌, ◌<◌, ◌≤◌, Bool, true, false, cond, List, [], ◌∷◌, map, All, flat_map, Option, Some, None, refl, sym, subst, arith, zero-add}
use Rattle.std.specs.Prelude.{filter}
use Rattle.std.specs.Option.{IfSome, option_map}
use Rattle.std.specs.List.{AllByRecursion, filter_map, cons_option, range_with_len}
use Rattle.std.proofs.lemmas.List.FromFn.{get_or-map-range_with_len, length-map-range_with_len}
use Rattle.vpr_text.proofs.WordBytes.{each_joined}

-- ---- of each number below n

pub each_mapped : {Y : Type 0} (P : Y → Type 0) (g : ℕ → Y) (n : ℕ) → ((k : ℕ) → k < n → P (g k)) → All P (map g (range_with_len 0 n))
each_mapped P g n h k d lt =
    let below : k < n = subst (λ m. k < m) (length-map-range_with_len g 0 n) lt in
    subst P (sym (get_or-map-range_with_len g 0 n k k d below (zero-add k))) (h k below)

kept_by : (P : ℕ → Type 0) (b : Bool) (k : ℕ) (ks : List ℕ) → (b ≡ true → P k) → AllByRecursion P ks → AllByRecursion P (cond b (k ∷ ks) ks)
kept_by P true k ks here rest = (here refl, rest)
kept_by P false k ks here rest = rest

pub each_kept : (p : ℕ → Bool) (P : ℕ → Type 0) (a n : ℕ) → ((k : ℕ) → a ≤ k → k < a + n → p k ≡ true → P k) → AllByRecursion P (filter p (range_with_len a n))
each_kept p P a zero h = tt
each_kept p P a (suc n) h =
    kept_by P (p a) a (filter p (range_with_len (a + 1) n)) (h a (omega arith) (omega arith))
    (each_kept p P (a + 1) n (λ k low high. h k (omega (arith, low)) (omega (arith, high))))

picked_by : {Y : Type 0} (P : Y → Type 0) (o : Option Y) (ys : List Y) → IfSome o P → AllByRecursion P ys → AllByRecursion P (cons_option o ys)
picked_by P None ys here rest = rest
picked_by P (Some y) ys here rest = (here, rest)

pub each_picked : {Y : Type 0} (P : Y → Type 0) (h : ℕ → Option Y) (a n : ℕ) → ((k : ℕ) → a ≤ k → k < a + n → IfSome (h k) P) → AllByRecursion P (filter_map h (range_with_len a n))
each_picked P h a zero each = tt
each_picked P h a (suc n) each =
    picked_by P (h a) (filter_map h (range_with_len (a + 1) n)) (each a (omega arith) (omega arith))
    (each_picked P h (a + 1) n (λ k low high. each k (omega (arith, low)) (omega (arith, high))))

pub each_listed : {Y : Type 0} (P : Y → Type 0) (g : ℕ → List Y) (a n : ℕ) → ((k : ℕ) → a ≤ k → k < a + n → AllByRecursion P (g k)) → AllByRecursion P (flat_map g (range_with_len a n))
each_listed P g a zero h = tt
each_listed P g a (suc n) h =
    each_joined P (g a) (flat_map g (range_with_len (a + 1) n)) (h a (omega arith) (omega arith))
    (each_listed P g (a + 1) n (λ k low high. h k (omega (arith, low)) (omega (arith, high))))

-- ---- of each element

passed_by : {Y : Type 0} (P : Y → Type 0) (b : Bool) (y : Y) (ys : List Y) → P y → AllByRecursion P ys → AllByRecursion P (cond b (y ∷ ys) ys)
passed_by P true y ys here rest = (here, rest)
passed_by P false y ys here rest = rest

pub each_passed : {Y : Type 0} (P : Y → Type 0) (p : Y → Bool) (ys : List Y) → AllByRecursion P ys → AllByRecursion P (filter p ys)
each_passed P p [] h = tt
each_passed P p (y ∷ ys) h = passed_by P (p y) y (filter p ys) h.0 (each_passed P p ys h.1)

pub each_made : {X Y : Type 0} (P : Y → Type 0) (f : X → Y) (xs : List X) → AllByRecursion (λ x. P (f x)) xs → AllByRecursion P (map f xs)
each_made P f [] h = tt
each_made P f (x ∷ xs) h = (h.0, each_made P f xs h.1)

pub if_mapped : {X Y : Type 0} (P : Y → Type 0) (f : X → Y) (o : Option X) → ((x : X) → P (f x)) → IfSome (option_map f o) P
if_mapped P f None h = tt
if_mapped P f (Some x) h = h x
