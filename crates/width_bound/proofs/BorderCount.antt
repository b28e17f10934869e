-- How many places of the border are counted, place by place and row by row.
use Rattle.std.proofs.Common.{◌≡◌, ℕ, ◌+◌, ◌*◌, ◌≤◌, Bool, true, false, cond, if◌then◌else◌, List, [], ◌∷◌, ◌++◌, map, ap, ◌∙◌, arith}
use Rattle.std.specs.Prelude.{count_by}
use Rattle.std.specs.List.{range_with_len, flat_map}
use Rattle.std.proofs.lemmas.List.FromFn.{sum_by-map-range_with_len_more}
use Rattle.std.proofs.lemmas.List.Concat.{flat_map-append}
use Rattle.std.proofs.lemmas.List.Sums.{sum_by-append}
use Rattle.rr_graph.proofs.Ranges.{below_next}
use Rattle.rr_graph.specs.node.Kind.TheVariants.{Chanx, Chany}
use Rattle.rr_graph.specs.Fabric.{numbers_below}
use Rattle.rr_graph.specs.Wires.{Place}
use Rattle.width_bound.specs.Cuts.{Cut, border_size, is_border, places_of_array}

abbrev one_of : Bool → ℕ
one_of b = if b then 1 else 0

one_at_most : (b : Bool) → one_of b ≤ 1
one_at_most true = omega arith
one_at_most false = omega arith

-- one place more of a row or a column
pub place_more : (test : Place → Bool) (place : ℕ → Place) (n now got : ℕ) (b : Bool) → (now ≡ count_by test (map place (range_with_len 1 n))) × (now ≤ n) →
    b ≡ test (place (n + 1)) → got ≡ (if b then 1 else 0) → (now + got ≡ count_by test (map place (range_with_len 1 (n + 1)))) × (now + got ≤ n + 1)
place_more test place n now got b h e g =
    let more = sum_by-map-range_with_len_more (λ p. cond (test p) 1 0) place 1 n (n + 1) (omega arith) in
    let one = one_at_most b in
    let same = ap (λ c. one_of c) e in
    (omega (arith, h.0, more, same, g), omega (arith, h.1, one, g))

-- one row or column more
pub row_more : (test : Place → Bool) (row : ℕ → List Place) (n now got : ℕ) → (now ≡ count_by test (flat_map row (numbers_below n))) × (now ≤ n * 100) →
    got ≡ count_by test (row n) → got ≤ 100 → (now + got ≡ count_by test (flat_map row (numbers_below (n + 1)))) × (now + got ≤ (n + 1) * 100)
row_more test row n now got h e few =
    let count : List Place → ℕ = count_by test in
    let longer = ap (λ ns. count (flat_map row ns)) (below_next n) ∙ ap count (flat_map-append row (numbers_below n) (n ∷ []))
    ∙ sum_by-append (λ p. cond (test p) 1 0) (flat_map row (numbers_below n)) (row n ++ []) in
    let last = sum_by-append (λ p. cond (test p) 1 0) (row n) [] in
    (omega (arith, h.0, longer, last, e), omega (arith, h.1, few))

pub both_counted : (cut : Cut) (nx ny above right : ℕ) →
    above ≡ count_by (is_border cut) (flat_map (λ y. map (λ x. (Chanx, x, y)) (range_with_len 1 nx)) (numbers_below (ny + 1))) →
    right ≡ count_by (is_border cut) (flat_map (λ x. map (λ y. (Chany, x, y)) (range_with_len 1 ny)) (numbers_below (nx + 1))) →
    above + right ≡ border_size nx ny cut
unfolding border_size places_of_array
both_counted cut nx ny above right e h =
    let both = sum_by-append (λ p. cond (is_border cut p) 1 0) (flat_map (λ y. map (λ x. (Chanx, x, y)) (range_with_len 1 nx)) (numbers_below (ny + 1)))
    (flat_map (λ x. map (λ y. (Chany, x, y)) (range_with_len 1 ny)) (numbers_below (nx + 1))) in
    omega (arith, e, h, both)
