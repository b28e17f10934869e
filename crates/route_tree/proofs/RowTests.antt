-- Passes over the rows of a tree.
use Rattle.std.proofs.Common.{◌≡◌, ℕ, ◌+◌, ◌<◌, ◌==◌, inl, inr, Bool, true, false, not, count_by, if◌then◌else◌, nat_lt, ◌&&◌, ◌||◌, List, [], ◌∷◌, ◌++◌, length, map, take, drop, get_or, set, refl, sym, ap, ap₂, ◌∙◌, subst, arith}
use Rattle.std.specs.List.{list_any}
use Rattle.std.proofs.lemmas.Bool.{or_left, or_right, or_from, cases_Bool, false≢true, eq-eqb, eqb-true, or_parts, not-false}
use Rattle.std.proofs.lemmas.Bool.Decides.{nat_tests}
use Rattle.std.proofs.lemmas.List.{map-append, take_more, take-append-drop}
use Rattle.std.proofs.lemmas.List.Sums.{count_by_more_yes, count_by_more_no}
use Rattle.std.proofs.lemmas.List.Elements.{All-from_get_or}
use Rattle.std.proofs.lemmas.List.Folds.{list_any-append, list_any_none, list_any_at}
use Rattle.route_tree.proofs.Marking.{one_more_marked}
use Rattle.route_tree.specs.declared.tree.Row.{Row}
use Rattle.route_tree.specs.Paths.{Pair, ends_of}
use Rattle.route_tree.specs.Legality.{is_among, has_twice}
use Rattle.route_tree.specs.Rows.{no_row, node_in, pair_of, pairs_of, IsTree}
use Rattle.route_tree.specs.Faults.{begins_elsewhere, has_foreign_sink, misses_sink}
use Rattle.routing_problem.specs.Fabric.{Fabric}
use Rattle.routing_problem.proofs.Joins.{any_same}
use Rattle.routing_problem.specs.Problems.{is_sink}
use Rattle.route_tree.specs.kept.Marked.{IsMarked, nodes_of}

module _ {X : Type 0} (p : X → Bool) (xs : List X) (d : X) where
  -- no element passes a test
  pub none_passes : ((k : ℕ) → k < length xs → p (get_or xs k d) ≡ false) → list_any p xs ≡ false
  none_passes h = list_any_none p xs (All-from_get_or (λ x. p x ≡ false) xs d h)

-- where no element passes a test each fails it
pub none_at : {X : Type 0} (p : X → Bool) (xs : List X) (d : X) → list_any p xs ≡ false → (k : ℕ) → k < length xs → p (get_or xs k d) ≡ false
none_at p xs d h k l = elim (cases_Bool (p (get_or xs k d))) [
  | inl t ↦ absurd (false≢true (sym h ∙ list_any_at p xs k d l t))
  | inr t ↦ t
]

pub begins : (rows : List Row) (source : ℕ) → IsTree rows → begins_elsewhere source (pairs_of rows) ≡ (nat_lt (length rows) 2 || not (node_in rows 0 == source))
unfolding pairs_of
begins [] source t = let l = t.some in absurd (omega (arith, l))
begins (r ∷ []) source t = refl
begins (r ∷ s ∷ rs) source t =
    let early = t.earlier 1 (omega arith) (omega arith) in
    let first : s.parent ≡ 0 = omega (arith, early) in
    let few : nat_lt (length (r ∷ s ∷ rs)) 2 ≡ false = grind (arith, nat_tests) in
    ap (λ k. not (node_in (r ∷ s ∷ rs) k == source)) first ∙ ap (λ b. b || not (r.node == source)) (sym few)

-- a list with a number twice has it twice also with more after
more_twice : (xs ys : List ℕ) → has_twice xs ≡ true → has_twice (xs ++ ys) ≡ true
more_twice [] ys h = absurd (false≢true h)
more_twice (x ∷ xs) ys h = elim (cases_Bool (is_among xs x)) [
  | inl again ↦ or_left (is_among (xs ++ ys) x) (has_twice (xs ++ ys)) (list_any-append (λ z. z == x) xs ys ∙ or_left (is_among xs x) (is_among ys x) again)
  | inr once ↦ or_right (is_among (xs ++ ys) x) (has_twice (xs ++ ys)) (more_twice xs ys (sym (ap (λ b. b || has_twice xs) once) ∙ h))
]

moved : (a h b e : Bool) → ((a || (e || false)) || (h || b)) ≡ ((a || h) || (e || b))
moved true h b e = refl
moved false true b true = refl
moved false true b false = refl
moved false false b true = refl
moved false false b false = refl

pub same_test : (x y : ℕ) → (x == y) ≡ (y == x)
same_test x y = elim (cases_Bool (x == y)) [
  | inl e ↦ e ∙ sym (eq-eqb y x (sym (eqb-true x y e)))
  | inr e ↦ elim (cases_Bool (y == x)) [ inl k ↦ absurd (false≢true (sym e ∙ eq-eqb x y (sym (eqb-true y x k)))) | inr k ↦ e ∙ sym k ]
]

-- one more number stands twice where it is among those before
next_twice : (xs : List ℕ) (y : ℕ) → has_twice (xs ++ y ∷ []) ≡ (has_twice xs || is_among xs y)
next_twice [] y = refl
next_twice (x ∷ xs) y =
    ap₂ (λ a b. a || b) (list_any-append (λ z. z == x) xs (y ∷ []) ∙ ap (λ b. is_among xs x || (b || false)) (same_test y x)) (next_twice xs y)
    ∙ moved (is_among xs x) (has_twice xs) (is_among xs y) (x == y)

nodes_next : (rows : List Row) (i : ℕ) → i < length rows → nodes_of (take (i + 1) rows) ≡ nodes_of (take i rows) ++ (get_or rows i no_row).node ∷ []
nodes_next rows i l = ap nodes_of (take_more rows i no_row l) ∙ map-append (λ r. r.node) (take i rows) (get_or rows i no_row ∷ [])

pub next_marked : (rows : List Row) (flags : List Bool) (i : ℕ) → i < length rows → IsMarked flags (nodes_of (take i rows)) → (get_or rows i no_row).node < length flags → IsMarked (set flags (get_or rows i no_row).node true) (nodes_of (take (i + 1) rows))
next_marked rows flags i l m below =
    subst (IsMarked (set flags (get_or rows i no_row).node true)) (sym (nodes_next rows i l)) (one_more_marked flags (nodes_of (take i rows)) (get_or rows i no_row).node m below)

pub met_once : (rows : List Row) (flags : List Bool) (i : ℕ) → i < length rows → IsMarked flags (nodes_of (take i rows)) → has_twice (nodes_of (take i rows)) ≡ false → get_or flags (get_or rows i no_row).node false ≡ false → has_twice (nodes_of (take (i + 1) rows)) ≡ false
met_once rows flags i l m h e =
    let node = (get_or rows i no_row).node in
    let seen = nodes_of (take i rows) in
    ap has_twice (nodes_next rows i l) ∙ next_twice seen node ∙ or_from (has_twice seen) (is_among seen node) h (sym (m node) ∙ e)

pub met_twice : (rows : List Row) (flags : List Bool) (i : ℕ) → i < length rows → IsMarked flags (nodes_of (take i rows)) → get_or flags (get_or rows i no_row).node false ≡ true → has_twice (nodes_of rows) ≡ true
met_twice rows flags i l m e =
    let node = (get_or rows i no_row).node in
    let seen = nodes_of (take i rows) in
    let here : has_twice (nodes_of (take (i + 1) rows)) ≡ true = ap has_twice (nodes_next rows i l) ∙ next_twice seen node ∙ or_right (has_twice seen) (is_among seen node) (sym (m node) ∙ e) in
    subst (λ xs. has_twice xs ≡ true) (sym (map-append (λ r. r.node) (take (i + 1) rows) (drop (i + 1) rows)) ∙ ap nodes_of (take-append-drop (i + 1) rows))
    (more_twice (nodes_of (take (i + 1) rows)) (nodes_of (drop (i + 1) rows)) here)

-- the end of a pair is the node of its row
ends_are : (f : Row → Pair) (test : ℕ → Bool) → ((r : Row) → (f r).1 ≡ r.node) → (rows : List Row) → list_any test (ends_of (map f rows)) ≡ list_any (λ r. test r.node) rows
ends_are f test same [] = refl
ends_are f test same (r ∷ rs) = ap₂ (λ a b. test a || b) (same r) (ends_are f test same rs)

-- of marks that are those of the sinks
pub foreign : (f : Fabric) (rows : List Row) (sinks : List ℕ) (flags : List Bool) → IsMarked flags sinks → list_any (λ r. is_sink f r.node && not (get_or flags r.node false)) (drop 1 rows) ≡ has_foreign_sink f sinks (pairs_of rows)
unfolding pairs_of
foreign f rows sinks flags m =
    any_same (λ r. is_sink f r.node && not (get_or flags r.node false)) (λ r. is_sink f r.node && not (is_among sinks r.node)) (λ r. ap (λ b. is_sink f r.node && not b) (m r.node)) (drop 1 rows)
    ∙ sym (ends_are (pair_of rows) (λ b. is_sink f b && not (is_among sinks b)) (λ r. refl) (drop 1 rows))

pub count_next : (p : Pair → Bool) (pairs : List Pair) (i : ℕ) → i < length pairs → count_by p (take (i + 1) pairs) ≡ count_by p (take i pairs) + (if p (get_or pairs i (0, 0)) then 1 else 0)
count_next p pairs i l = elim (cases_Bool (p (get_or pairs i (0, 0)))) [
  | inl t ↦ rw t (count_by_more_yes p pairs i (0, 0) l t)
  | inr t ↦ (let e = count_by_more_no p pairs i (0, 0) l t in rw t (omega (arith, e)))
]

pub ends_of_rows : (f : Row → Pair) → ((r : Row) → (f r).1 ≡ r.node) → (rows : List Row) → nodes_of rows ≡ ends_of (map f rows)
ends_of_rows f same [] = refl
ends_of_rows f same (r ∷ rs) = ap₂ (λ x xs. x ∷ xs) (sym (same r)) (ends_of_rows f same rs)

-- a tree whose first pair begins at the source has the source and the ends of its pairs as nodes
pub nodes_are : (rows : List Row) (source : ℕ) → IsTree rows → begins_elsewhere source (pairs_of rows) ≡ false → nodes_of rows ≡ source ∷ ends_of (pairs_of rows)
unfolding pairs_of
nodes_are [] source t e = let l = t.some in absurd (omega (arith, l))
nodes_are (r ∷ rs) source t e =
    let parts = or_parts (nat_lt (length (r ∷ rs)) 2) (not (r.node == source)) (sym (begins (r ∷ rs) source t) ∙ e) in
    ap₂ (λ x xs. x ∷ xs) (eqb-true r.node source (not-false (r.node == source) parts.1)) (ends_of_rows (pair_of (r ∷ rs)) (λ x. refl) rs)

-- at a sink that is not the source no pair ends, exactly where it is not marked
pub missing : (rows : List Row) (source : ℕ) (sinks : List ℕ) (flags : List Bool) → IsMarked flags (source ∷ ends_of (pairs_of rows)) → is_among sinks source ≡ false → list_any (λ s. not (get_or flags s false)) sinks ≡ misses_sink sinks (pairs_of rows)
missing rows source [] flags m e = refl
missing rows source (s ∷ ss) flags m e =
    let parts = or_parts (s == source) (is_among ss source) e in
    ap₂ (λ a b. not a || b) (m s ∙ ap (λ b. b || is_among (ends_of (pairs_of rows)) s) (same_test source s ∙ parts.0)) (missing rows source ss flags m parts.1)
