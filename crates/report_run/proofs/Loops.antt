-- Texts of lists, one element after the other.
use Rattle.std.proofs.Common.{◌≡◌, ℕ, ◌+◌, ◌<◌, List, [], ◌++◌, length, get_or, take, sym, ap, ◌∙◌}
use Rattle.std.specs.List.{flat_map}
use Rattle.std.proofs.lemmas.List.{flat_map_more, take_more}

-- the text of one more element
pub each_more : {A : Type 0} (line : A → List ℕ) (xs : List A) (i : ℕ) (x : A) → i < length xs → x ≡ get_or xs i x
    → flat_map line (take i xs) ++ line x ≡ flat_map line (take (i + 1) xs)
each_more line xs i x below is =
    ap (λ y. flat_map line (take i xs) ++ line y) is
    ∙ (flat_map_more line [] (take i xs) (get_or xs i x) ∙ ap (flat_map line) (sym (take_more xs i x below)))
