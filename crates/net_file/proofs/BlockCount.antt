-- What accepted lines keep: the limit of blocks.
use Rattle.std.proofs.Common.{◌≡◌, ℕ, suc, ◌+◌, ◌≤◌, Bool, true, false, cond, ◌||◌, not, List, [], ◌∷◌, ◌++◌, length, filter, Option, None, refl, sym, ap, subst, ◌∙◌, arith, length-append}
use Rattle.std.specs.Prelude.{is_some, codes}
use Rattle.std.specs.List.{range_with_len}
use Rattle.std.proofs.Math.Seq.{get_or-append_seam}
use Rattle.std.proofs.lemmas.Bool.{ltb-false}
use Rattle.std.proofs.lemmas.List.{append-nil, append_assoc}
use Rattle.std.proofs.lemmas.List.Elements.{filter-append}
use Rattle.std.proofs.lemmas.List.Sums.{fold-append}
use Rattle.std.proofs.lemmas.Slice.Eq.{bytes_eq-Decides}
use Rattle.vpr_text.specs.Words.{Line, no_line, words_at}
use Rattle.vpr_text.specs.Word.{is_text}
use Rattle.net_file.specs.declared.terminal.BlockKind.{BlockKind}
use Rattle.net_file.specs.Judge.{first_fault, stands, is_bad_line, is_bad_count, is_double, are_too_many, fault_of_next}
use Rattle.net_file.specs.Lines.{kind_of, kind_at, is_element, is_pinlist, name_in, block_name_on, block_names, opened, latest}
use Rattle.net_file.specs.Names.{is_among, with_name, with_names}
use Rattle.net_file.specs.Blocks.{pinlists}
use Rattle.net_file.specs.Reads.{AreAccepted}
use Rattle.net_file.proofs.Judging.{words_more}

-- ---- a pinlist's line is nothing else

no_element_on : (w : List ℕ) (ws : List (List ℕ)) → is_pinlist (w ∷ ws) ≡ true → is_element (w ∷ ws) ≡ false
unfolding is_text kind_of
no_element_on w ws e = subst (λ v. is_element (v ∷ ws) ≡ false) (sym ((bytes_eq-Decides w (codes "pinlist:")).0 e)) refl

pub no_element : (words : List (List ℕ)) → is_pinlist words ≡ true → is_element words ≡ false
no_element [] e = absurd cc
no_element (w ∷ ws) e = no_element_on w ws e

stands_not_on : (block : Option BlockKind) (w : List ℕ) (ws : List (List ℕ)) → is_pinlist (w ∷ ws) ≡ true → stands block (w ∷ ws) ≡ false
unfolding is_text kind_of
stands_not_on block w ws e = subst (λ v. stands block (v ∷ ws) ≡ false) (sym ((bytes_eq-Decides w (codes "pinlist:")).0 e)) refl

pub stands_not : (block : Option BlockKind) (words : List (List ℕ)) → is_pinlist words ≡ true → stands block words ≡ false
stands_not block [] e = absurd cc
stands_not block (w ∷ ws) e = stands_not_on block w ws e

no_faults : (c d e t : Bool) → first_fault c d e t ≡ None → (c ≡ false) × (e ≡ false) × (t ≡ false)
no_faults true d e t h = absurd cc
no_faults false true e t h = absurd cc
no_faults false false true t h = absurd cc
no_faults false false false true h = absurd cc
no_faults false false false false h = (refl, refl, refl)

first_false : (a b : Bool) → (a || b) ≡ false → a ≡ false
first_false true b h = absurd cc
first_false false b h = refl

-- ---- pinlists and blocks

-- an element waits for its pinlist
abbrev waiting : Option BlockKind → ℕ
waiting o = cond (is_some o) 1 0

-- of a line after others: p, whether it is a pinlist, e, whether it is an element; o, whether an
-- element waits before it
step : (p e o : Bool) (count blocks more : ℕ) → (p ≡ true → e ≡ false) → (p ≡ true → o ≡ true) → (p ≡ false → o ≡ false) → more ≡ cond e (blocks + 1) blocks
    → count + cond o 1 0 ≤ blocks → (count + cond p 1 0) + cond e 1 0 ≤ more
step true true o count blocks more a b c m h = absurd (ff (a refl))
  where
    ff : true ≡ false → ⊥
    ff x = absurd cc
step true false true count blocks more a b c m h = omega (arith, m, h)
step true false false count blocks more a b c m h = absurd (ff (b refl))
  where
    ff : false ≡ true → ⊥
    ff x = absurd cc
step false true true count blocks more a b c m h = absurd (ff (c refl))
  where
    ff : true ≡ false → ⊥
    ff x = absurd cc
step false true false count blocks more a b c m h = omega (arith, m, h)
step false false true count blocks more a b c m h = absurd (ff (c refl))
  where
    ff : true ≡ false → ⊥
    ff x = absurd cc
step false false false count blocks more a b c m h = omega (arith, m, h)

pub of_bad_line : (o p s : Bool) → cond o (not p) (not s) ≡ false → (p ≡ true → s ≡ false) → (p ≡ true → o ≡ true) × (p ≡ false → o ≡ false)
of_bad_line true true s h k = (λ e. refl, λ e. absurd cc)
of_bad_line true false s h k = absurd cc
of_bad_line false true true h k = absurd (ff (k refl))
  where
    ff : true ≡ false → ⊥
    ff x = absurd cc
of_bad_line false true false h k = absurd cc
of_bad_line false false s h k = (λ e. absurd cc, λ e. refl)

grown : (names words : List (List ℕ)) (e : Bool) → is_element words ≡ e → is_double names words ≡ false → length (with_names names (block_name_on words)) ≡ cond e (length names + 1) (length names)
unfolding is_double with_name
grown names words true e h =
    let new : is_among names (name_in words) ≡ false = rw e at h in
    rw (e, new) (length-append names (name_in words ∷ []))
grown names words false e h = rw e refl

-- how many of the lines are pinlists
abbrev pinlists_in : List Line → ℕ
pinlists_in ls = length (filter (λ l. is_pinlist l.words) ls)

-- each pinlist has a block, and so has an element that waits
abbrev HaveBlocks : List Line → Type 0
HaveBlocks before = pinlists_in before + waiting (opened before) ≤ length (block_names before)

one_more : (before : List Line) (l : Line) → pinlists_in (before ++ l ∷ []) ≡ pinlists_in before + cond (is_pinlist l.words) 1 0
one_more before l =
    ap length (filter-append (λ k. is_pinlist k.words) before (l ∷ []))
    ∙ length-append (filter (λ k. is_pinlist k.words) before) _
    ∙ ap (λ n. pinlists_in before + n) (one (is_pinlist l.words) l)
  where
    one : (b : Bool) (x : Line) → length (cond b (x ∷ []) []) ≡ cond b 1 0
    one true x = refl
    one false x = refl

pub opened_by : (before : List Line) (l : Line) → opened (before ++ l ∷ []) ≡ kind_at l.words
unfolding opened
opened_by before l = fold-append (λ _ k. kind_at k.words) None before (l ∷ [])

have_more : (pins : ℕ) (before : List Line) (l : Line) → fault_of_next pins before l ≡ None → HaveBlocks before → HaveBlocks (before ++ l ∷ []) × (length (block_names (before ++ l ∷ [])) ≤ 20000)
unfolding fault_of_next is_bad_line are_too_many block_names
have_more pins before l h blocks =
    let fine = no_faults (is_bad_line (opened before) (latest before) l.words) (is_bad_count pins (opened before) l.words) (is_double (block_names before) l.words) _ h in
    let place = of_bad_line (is_some (opened before)) (is_pinlist l.words) (stands (latest before) l.words) fine.0 (stands_not (latest before) l.words) in
    let more : length (block_names (before ++ l ∷ [])) ≡ cond (is_element l.words) (length (block_names before) + 1) (length (block_names before)) =
    ap length (words_more block_name_on before l) ∙ grown (block_names before) l.words (is_element l.words) refl fine.1 in
    let stepped = step (is_pinlist l.words) (is_element l.words) (is_some (opened before)) (pinlists_in before) (length (block_names before)) (length (block_names (before ++ l ∷ []))) (no_element l.words) place.0 place.1 more blocks in (
      rw (one_more before l, opened_by before l) stepped,
      ltb-false 20000 (length (block_names (before ++ l ∷ []))) (first_false _ _ fine.2),
    )

few_from : (pins : ℕ) (before ls : List Line) → HaveBlocks before → length (block_names before) ≤ 20000 → AreAccepted pins before ls → pinlists_in (before ++ ls) ≤ 20000
few_from pins before [] blocks few h = subst (λ front. pinlists_in front ≤ 20000) (sym (append-nil before)) (omega (arith, blocks, few))
few_from pins before (l ∷ ls) blocks few h =
    let next = have_more pins before l h.0 blocks in
    subst (λ front. pinlists_in front ≤ 20000) (append_assoc before (l ∷ []) ls) (few_from pins (before ++ l ∷ []) ls next.0 next.1 h.1)

count_from : (before ls : List Line) → length (filter (λ i. is_pinlist (words_at (before ++ ls) i)) (range_with_len (length before) (length ls))) ≡ pinlists_in ls
count_from before [] = refl
count_from before (l ∷ ls) =
    let here : is_pinlist (words_at (before ++ l ∷ ls) (length before)) ≡ is_pinlist l.words = ap (λ k. is_pinlist k.words) (get_or-append_seam before l ls no_line) in
    let rest = count_from (before ++ l ∷ []) ls in
    let moved : length (filter (λ i. is_pinlist (words_at (before ++ l ∷ ls) i)) (range_with_len (length before + 1) (length ls))) ≡ pinlists_in ls =
    ap (λ all. length (filter (λ i. is_pinlist (words_at all i)) (range_with_len (length before + 1) (length ls)))) (sym (append_assoc before (l ∷ []) ls))
    ∙ ap (λ n. length (filter (λ i. is_pinlist (words_at ((before ++ l ∷ []) ++ ls) i)) (range_with_len n (length ls)))) (sym (length-append before (l ∷ [])))
    ∙ rest in
    both (is_pinlist (words_at (before ++ l ∷ ls) (length before))) (is_pinlist l.words) (length before) l _ (filter (λ k. is_pinlist k.words) ls) here moved
  where
    both : (b c : Bool) (i : ℕ) (x : Line) (is : List ℕ) (xs : List Line) → b ≡ c → length is ≡ length xs → length (cond b (i ∷ is) is) ≡ length (cond c (x ∷ xs) xs)
    both true true i x is xs e h = ap (λ n. suc n) h
    both false false i x is xs e h = h
    both true false i x is xs e h = absurd cc
    both false true i x is xs e h = absurd cc

none_have : HaveBlocks [] × (length (block_names []) ≤ 20000)
unfolding block_names opened
none_have = (omega arith, omega arith)

-- lines of which none is faulty have at most 20,000 pinlists, and so blocks
pub few_pinlists : (pins : ℕ) (ls : List Line) → AreAccepted pins [] ls → length (pinlists ls) ≤ 20000
unfolding pinlists
few_pinlists pins ls h = subst (λ n. n ≤ 20000) (sym (count_from [] ls)) (few_from pins [] ls none_have.0 none_have.1 h)
