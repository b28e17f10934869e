-- Lists that stand one behind the other, to which one more was added.
use Rattle.std.proofs.Common.{◌≡◌, ℕ, ◌+◌, ◌-◌, ◌≤◌, zero, suc, List, [], ◌∷◌, ◌++◌, length, map, take, drop, refl, ap, ◌∙◌, arith}
use Rattle.std.specs.Prelude.{All, slice_range}
use Rattle.std.specs.List.{AllByRecursion}
use Rattle.std.proofs.lemmas.List.{length-append, map-append, take-append-le}
use Rattle.std.proofs.lemmas.List.Elements.{recursion_from_All}
use Rattle.track_groups.specs.declared.rows.ListPart.{ListPart}
use Rattle.track_groups.specs.kept.ListParts.{IsListPart, part_of}

-- ---- parts of lists that grow
module _ {X : Type 0} where
  part-front : (xs ys : List X) (i n : ℕ) → i + n ≤ length xs → take n (drop i (xs ++ ys)) ≡ take n (drop i xs)
  part-front xs ys zero n l = take-append-le n xs ys (omega arith)
  part-front [] ys (suc i) n l = absurd (omega arith)
  part-front (x ∷ xs) ys (suc i) n l = part-front xs ys i n (omega arith)

  range-front : (xs ys : List X) (i j : ℕ) → i ≤ j → j ≤ length xs → slice_range (xs ++ ys) i j ≡ slice_range xs i j
  range-front xs ys i j low high = part-front xs ys i (j - i) (omega arith)

  pub part-back : (xs ys : List X) → take (length ys) (drop (length xs) (xs ++ ys)) ≡ ys
  part-back [] [] = refl
  part-back [] (y ∷ ys) = ap (λ zs. y ∷ zs) (part-back [] ys)
  part-back (x ∷ xs) ys = part-back xs ys

  range-back : (xs ys : List X) → slice_range (xs ++ ys) (length xs) (length (xs ++ ys)) ≡ ys
  range-back xs ys =
      let e : length (xs ++ ys) - length xs ≡ length ys = omega (arith, length-append xs ys) in
      ap (λ n. take n (drop (length xs) (xs ++ ys))) e ∙ part-back xs ys

  -- ---- rows one behind the other
  each_part_kept : (ds es : List X) (ps : List ListPart) → AllByRecursion (IsListPart (length ds)) ps → map (part_of (ds ++ es)) ps ≡ map (part_of ds) ps
  each_part_kept ds es [] h = refl
  each_part_kept ds es (p ∷ ps) h =
      ap (λ r. r ∷ map (part_of (ds ++ es)) ps) (range-front ds es p.start p.end h.0.ordered h.0.within) ∙ ap (λ rs. part_of ds p ∷ rs) (each_part_kept ds es ps h.1)

  pub row_pushed : (ds row : List X) (ps : List ListPart) (p : ListPart) → All (IsListPart (length ds)) ps → p.start ≡ length ds → p.end ≡ length (ds ++ row)
      → map (part_of (ds ++ row)) (ps ++ p ∷ []) ≡ map (part_of ds) ps ++ row ∷ []
  row_pushed ds row ps p h first last =
      let here : part_of (ds ++ row) p ≡ row =
      ap (λ i. slice_range (ds ++ row) i p.end) first ∙ ap (slice_range (ds ++ row) (length ds)) last ∙ range-back ds row in
      map-append (part_of (ds ++ row)) ps (p ∷ [])
      ∙ ap (λ r. map (part_of (ds ++ row)) ps ++ r ∷ []) here
      ∙ ap (λ rs. rs ++ row ∷ []) (each_part_kept ds row ps (recursion_from_All (IsListPart (length ds)) ps h))
