-- The names of the blocks are those of the elements.
use Rattle.std.proofs.Common.{◌≡◌, ℕ, ◌+◌, ◌-◌, Bool, true, false, cond, List, [], ◌∷◌, ◌++◌, length, map, None, refl, sym, ap, subst, ◌∙◌, arith, length-append}
use Rattle.std.specs.Prelude.{filter, is_some}
use Rattle.std.specs.List.{range_with_len}
use Rattle.std.proofs.Math.Seq.{get_or-append_seam}
use Rattle.std.proofs.lemmas.List.{append-nil, append_assoc}
use Rattle.vpr_text.specs.Words.{Line, no_line, words_at}
use Rattle.net_file.specs.Blocks.{block_of, block_at, blocks_of, pinlists}
use Rattle.net_file.specs.Judge.{stands, is_bad_line, is_bad_count, is_double, fault_of_next}
use Rattle.net_file.specs.Lines.{is_element, is_pinlist, name_in, block_name_on, block_names, opened, latest}
use Rattle.net_file.specs.Names.{is_among, with_name, with_names}
use Rattle.net_file.specs.Reads.{AreAccepted}
use Rattle.net_file.proofs.BlockCount.{of_bad_line, opened_by, stands_not}
use Rattle.net_file.proofs.Judging.{words_more}
use Rattle.net_file.proofs.PinCounts.{no_early}

-- ---- by pinlists, the name in the line before each

abbrev names_before : List Line → ℕ → ℕ → List (List ℕ)
names_before all k n = map (λ i. name_in (words_at all (i - 1))) (filter (λ i. is_pinlist (words_at all i)) (range_with_len k n))

-- the same by recursion; name is that in the line before
abbrev pub names_from : List ℕ → List Line → List (List ℕ)
names_from name [] = []
names_from name (l ∷ ls) = cond (is_pinlist l.words) (name ∷ names_from (name_in l.words) ls) (names_from (name_in l.words) ls)

one_before : (f : ℕ → List ℕ) (b c : Bool) (k : ℕ) (ks : List ℕ) (names : List (List ℕ)) → b ≡ c → map f ks ≡ names → map f (cond b (k ∷ ks) ks) ≡ cond c (f k ∷ names) names
one_before f true true k ks names e h = ap (λ ns. f k ∷ ns) h
one_before f false false k ks names e h = h
one_before f true false k ks names e h = absurd cc
one_before f false true k ks names e h = absurd cc

listed_from : (before ls : List Line) → names_before (before ++ ls) (length before) (length ls) ≡ names_from (name_in (words_at (before ++ ls) (length before - 1))) ls
listed_from before [] = refl
listed_from before (l ∷ ls) =
    let all = before ++ l ∷ ls in
    let k = length before in
    let here : words_at all k ≡ l.words = ap (λ x. x.words) (get_or-append_seam before l ls no_line) in
    let size : length (before ++ l ∷ []) ≡ k + 1 = length-append before (l ∷ []) in
    let last : (k + 1) - 1 ≡ k = omega arith in
    let rest = listed_from (before ++ l ∷ []) ls in
    let whole : names_before all (length (before ++ l ∷ [])) (length ls) ≡ names_from (name_in (words_at all (length (before ++ l ∷ []) - 1))) ls =
    subst (λ a. names_before a (length (before ++ l ∷ [])) (length ls) ≡ names_from (name_in (words_at a (length (before ++ l ∷ []) - 1))) ls) (append_assoc before (l ∷ []) ls) rest in
    let moved : names_before all (k + 1) (length ls) ≡ names_from (name_in (words_at all ((k + 1) - 1))) ls =
    subst (λ n. names_before all n (length ls) ≡ names_from (name_in (words_at all (n - 1))) ls) size whole in
    let name : name_in (words_at all ((k + 1) - 1)) ≡ name_in l.words = ap (λ n. name_in (words_at all n)) last ∙ ap name_in here in
    one_before (λ i. name_in (words_at all (i - 1))) (is_pinlist (words_at all k)) (is_pinlist l.words) k (filter (λ i. is_pinlist (words_at all i)) (range_with_len (k + 1) (length ls))) (names_from (name_in l.words) ls)
    (ap is_pinlist here) (moved ∙ ap (λ n. names_from n ls) name)

-- ---- by elements

same_test : (p o : Bool) → (p ≡ true → o ≡ true) → (p ≡ false → o ≡ false) → o ≡ p
same_test true o f g = f refl
same_test false o f g = g refl

with_element : (names words : List (List ℕ)) (e : Bool) → is_element words ≡ e → is_double names words ≡ false → with_names names (block_name_on words) ≡ names ++ cond e (name_in words ∷ []) []
unfolding is_double with_name
with_element names words true e h =
    let new : is_among names (name_in words) ≡ false = rw e at h in
    rw (e, new) refl
with_element names words false e h = rw e (sym (append-nil names))

front : (xs : List (List ℕ)) (p : Bool) (name : List ℕ) (names : List (List ℕ)) → (xs ++ cond p (name ∷ []) []) ++ names ≡ xs ++ cond p (name ∷ names) names
front xs true name names = append_assoc xs (name ∷ []) names
front xs false name names = ap (λ ys. ys ++ names) (append-nil xs)

places : (pins : ℕ) (before : List Line) (l : Line) → fault_of_next pins before l ≡ None → (is_some (opened before) ≡ is_pinlist l.words) × (is_double (block_names before) l.words ≡ false)
unfolding fault_of_next is_bad_line
places pins before l h =
    let fine = no_early (is_bad_line (opened before) (latest before) l.words) (is_bad_count pins (opened before) l.words) (is_double (block_names before) l.words) _ h in
    let place = of_bad_line (is_some (opened before)) (is_pinlist l.words) (stands (latest before) l.words) fine.0 (stands_not (latest before) l.words) in
    (same_test (is_pinlist l.words) (is_some (opened before)) place.0 place.1, fine.2)

added : (before : List Line) (l : Line) → is_double (block_names before) l.words ≡ false → block_names (before ++ l ∷ []) ≡ block_names before ++ cond (is_element l.words) (name_in l.words ∷ []) []
unfolding block_names
added before l single = words_more block_name_on before l ∙ with_element (block_names before) l.words (is_element l.words) refl single

-- xs are the names of the elements that have their pinlists, and name is that of the one that
-- waits, if one does
named_from : (pins : ℕ) (before ls : List Line) (xs : List (List ℕ)) (name : List ℕ) → block_names before ≡ xs ++ cond (is_some (opened before)) (name ∷ []) []
    → AreAccepted pins before ls → opened (before ++ ls) ≡ None → block_names (before ++ ls) ≡ xs ++ names_from name ls
named_from pins before [] xs name so_far h none =
    let no_more : opened before ≡ None = ap opened (sym (append-nil before)) ∙ none in
    ap block_names (append-nil before) ∙ so_far ∙ ap (λ o. xs ++ cond (is_some o) (name ∷ []) []) no_more
named_from pins before (l ∷ ls) xs name so_far h none =
    let tests = places pins before l h.0 in
    let waits : is_some (opened before) ≡ is_pinlist l.words = tests.0 in
    let more : block_names (before ++ l ∷ []) ≡ block_names before ++ cond (is_element l.words) (name_in l.words ∷ []) [] = added before l tests.1 in
    let next : block_names (before ++ l ∷ []) ≡ (xs ++ cond (is_pinlist l.words) (name ∷ []) []) ++ cond (is_some (opened (before ++ l ∷ []))) (name_in l.words ∷ []) [] =
    more ∙ ap (λ ns. ns ++ cond (is_element l.words) (name_in l.words ∷ []) []) (so_far ∙ ap (λ b. xs ++ cond b (name ∷ []) []) waits)
    ∙ ap (λ o. (xs ++ cond (is_pinlist l.words) (name ∷ []) []) ++ cond (is_some o) (name_in l.words ∷ []) []) (sym (opened_by before l)) in
    ap block_names (sym (append_assoc before (l ∷ []) ls))
    ∙ named_from pins (before ++ l ∷ []) ls (xs ++ cond (is_pinlist l.words) (name ∷ []) []) (name_in l.words) next h.1 (ap opened (append_assoc before (l ∷ []) ls) ∙ none)
    ∙ front xs (is_pinlist l.words) name (names_from (name_in l.words) ls)

pub map_made : {X Y Z : Type 0} (g : Y → Z) (f : X → Y) (xs : List X) → map g (map f xs) ≡ map (λ x. g (f x)) xs
map_made g f [] = refl
map_made g f (x ∷ xs) = ap (λ zs. g (f x) ∷ zs) (map_made g f xs)

names_by_pinlists : (names : List (List ℕ)) (ls : List Line) → map (λ b. b.name) (blocks_of names ls) ≡ names_before ls 0 (length ls)
unfolding blocks_of block_at block_of pinlists
names_by_pinlists names ls = map_made (λ b. b.name) (block_at names ls) (pinlists ls)

none_named : (name : List ℕ) → block_names [] ≡ [] ++ cond (is_some (opened [])) (name ∷ []) []
unfolding block_names opened
none_named name = refl

-- the blocks have the names of the elements, in their order
pub block_names_are : (pins : ℕ) (names : List (List ℕ)) (ls : List Line) → AreAccepted pins [] ls → opened ls ≡ None → map (λ b. b.name) (blocks_of names ls) ≡ block_names ls
block_names_are pins names ls h none =
    let name = name_in (words_at ls (0 - 1)) in
    names_by_pinlists names ls ∙ listed_from [] ls ∙ sym (named_from pins [] ls [] name (none_named name) h none)
