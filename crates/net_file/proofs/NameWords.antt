-- The names of blocks and nets are words of the text.
use Rattle.std.proofs.Common.{◌≡◌, ℕ, Bool, true, false, cond, not, ◌&&◌, ◌||◌, eqb, leb, List, [], ◌∷◌, ◌++◌, length, drop, All, flat_map, None, refl, sym, subst, arith}
use Rattle.std.specs.Prelude.{filter, codes, is_some}
use Rattle.std.specs.Option.{option_map_or}
use Rattle.std.specs.List.{AllByRecursion}
use Rattle.std.proofs.lemmas.Bool.{eqb-true}
use Rattle.std.proofs.lemmas.List.Elements.{recursion_from_All}
use Rattle.std.proofs.lemmas.Slice.Eq.{bytes_eq-Decides}
use Rattle.vpr_text.specs.Text.{IsWord}
use Rattle.vpr_text.specs.kept.Split.{HaveWords}
use Rattle.vpr_text.specs.Words.{Line}
use Rattle.vpr_text.specs.Word.{is_text}
use Rattle.net_file.specs.Judge.{is_logic_block, stands, is_bad_line, is_bad_count, is_double, fault_of_next}
use Rattle.net_file.specs.Lines.{kind_of, is_element, is_pinlist, is_global, is_subblock, is_open, name_in, block_name_on, net_names_on, block_names, net_names, opened, latest}
use Rattle.net_file.specs.Reads.{AreAccepted}
use Rattle.net_file.proofs.BlockCount.{no_element, of_bad_line, stands_not}
use Rattle.net_file.proofs.Distinct.{distinct_each}
use Rattle.vpr_text.proofs.WordBytes.{each_joined}
use Rattle.net_file.proofs.Each.{each_passed}
use Rattle.net_file.proofs.PinCounts.{no_early}

-- ---- an element is its two words

not_element_on : (text : List ℕ) (w : List ℕ) (ws : List (List ℕ)) → is_element (text ∷ ws) ≡ false → is_text w text ≡ true → is_element (w ∷ ws) ≡ false
unfolding is_text
not_element_on text w ws none e = subst (λ v. is_element (v ∷ ws) ≡ false) (sym ((bytes_eq-Decides w text).0 e)) none

global_no_element : (words : List (List ℕ)) → is_global words ≡ true → is_element words ≡ false
unfolding is_text kind_of
global_no_element [] e = absurd cc
global_no_element (w ∷ ws) e = not_element_on (codes ".global") w ws refl e

subblock_no_element : (words : List (List ℕ)) → is_subblock words ≡ true → is_element words ≡ false
unfolding is_text kind_of
subblock_no_element [] e = absurd cc
subblock_no_element (w ∷ ws) e = not_element_on (codes "subblock:") w ws refl e

-- what isn't an element where it is another line is no such line where it is an element
other_line : (b e : Bool) → (b ≡ true → e ≡ false) → e ≡ true → b ≡ false
other_line true e f h = absurd (none e (f refl) h)
  where
    none : (e : Bool) → e ≡ false → e ≡ true → ⊥
    none true f h = absurd cc
    none false f h = absurd cc
other_line false e f h = refl

stood : (o p s : Bool) → cond o (not p) (not s) ≡ false → o ≡ false → s ≡ true
stood true p s h e = absurd cc
stood false p true h e = refl
stood false p false h e = absurd cc

both_words : (e g s two filled inside : Bool) → ((e && two) || (g && filled) || (s && inside)) ≡ true → g ≡ false → s ≡ false → two ≡ true
both_words e true s two filled inside h x y = absurd cc
both_words e false true two filled inside h x y = absurd cc
both_words true false false true filled inside h x y = refl
both_words false false false true filled inside h x y = refl
both_words true false false false filled inside h x y = absurd cc
both_words false false false false filled inside h x y = absurd cc

element_words : (pins : ℕ) (before : List Line) (l : Line) → fault_of_next pins before l ≡ None → is_element l.words ≡ true → length l.words ≡ 2
unfolding fault_of_next is_bad_line
element_words pins before l h e =
    let words = l.words in
    let fine = no_early (is_bad_line (opened before) (latest before) words) (is_bad_count pins (opened before) words) (is_double _ words) _ h in
    let place = of_bad_line (is_some (opened before)) (is_pinlist words) (stands (latest before) words) fine.0 (stands_not (latest before) words) in
    let none_waits = place.1 (other_line (is_pinlist words) (is_element words) (no_element words) e) in
    let stand = stood (is_some (opened before)) (is_pinlist words) (stands (latest before) words) fine.0 none_waits in
    eqb-true (length words) 2
    (both_words (is_element words) (is_global words) (is_subblock words) (eqb (length words) 2) (leb 2 (length words)) (option_map_or is_logic_block (latest before) false) stand
    (other_line (is_global words) (is_element words) (global_no_element words) e)
    (other_line (is_subblock words) (is_element words) (subblock_no_element words) e))

-- ---- names on a line

second_word : (words : List (List ℕ)) → length words ≡ 2 → AllByRecursion IsWord words → IsWord (name_in words)
second_word [] e h = absurd (omega (arith, e))
second_word (w ∷ []) e h = absurd (omega (arith, e))
second_word (w ∷ v ∷ ws) e h = h.1.0

block_word : (words : List (List ℕ)) (b : Bool) → (b ≡ true → length words ≡ 2) → AllByRecursion IsWord words → AllByRecursion IsWord (cond b (name_in words ∷ []) [])
block_word words true two h = (second_word words (two refl) h, tt)
block_word words false two h = tt

net_words : (words : List (List ℕ)) (b : Bool) → AllByRecursion IsWord words → AllByRecursion IsWord (cond b (filter (λ w. not (is_open w)) (drop 1 words)) [])
net_words words false h = tt
net_words [] true h = tt
net_words (w ∷ ws) true h = each_passed IsWord (λ v. not (is_open v)) ws h.1

-- ---- names on lines

block_words_from : (pins : ℕ) (before ls : List Line) → AreAccepted pins before ls → AllByRecursion (λ l. All IsWord l.words) ls → AllByRecursion IsWord (flat_map (λ l. block_name_on l.words) ls)
block_words_from pins before [] h words = tt
block_words_from pins before (l ∷ ls) h words =
    each_joined IsWord (block_name_on l.words) (flat_map (λ k. block_name_on k.words) ls)
    (block_word l.words (is_element l.words) (element_words pins before l h.0) (recursion_from_All IsWord l.words words.0))
    (block_words_from pins (before ++ l ∷ []) ls h.1 words.1)

net_words_from : (ls : List Line) → AllByRecursion (λ l. All IsWord l.words) ls → AllByRecursion IsWord (flat_map (λ l. net_names_on l.words) ls)
net_words_from [] words = tt
net_words_from (l ∷ ls) words =
    each_joined IsWord (net_names_on l.words) (flat_map (λ k. net_names_on k.words) ls)
    (net_words l.words (is_pinlist l.words) (recursion_from_All IsWord l.words words.0))
    (net_words_from ls words.1)

pub block_names_words : (pins : ℕ) (ls : List Line) → AreAccepted pins [] ls → HaveWords ls → AllByRecursion IsWord (block_names ls)
unfolding block_names
block_names_words pins ls h words =
    distinct_each IsWord (flat_map (λ l. block_name_on l.words) ls) (block_words_from pins [] ls h (recursion_from_All (λ l. All IsWord l.words) ls words))

pub net_names_words : (ls : List Line) → HaveWords ls → AllByRecursion IsWord (net_names ls)
unfolding net_names
net_names_words ls words = distinct_each IsWord (flat_map (λ l. net_names_on l.words) ls) (net_words_from ls (recursion_from_All (λ l. All IsWord l.words) ls words))
