-- Reading line by line, as the loop does.
use Rattle.std.proofs.Common.{◌≡◌, ℕ, ◌+◌, ◌<◌, ◌≤◌, true, false, List, [], ◌∷◌, ◌++◌, length, get_or, drop, Ok, Err, refl, sym, ap, ◌∙◌, add-one}
use Rattle.std.proofs.Math.Seq.{drop-cons}
use Rattle.std.proofs.lemmas.List.{drop_all}
use Rattle.vpr_text.specs.Words.{Line, no_line, number_at, words_at}
use Rattle.arch_file.specs.declared.fault.LineFault.{LineFault}
use Rattle.arch_file.specs.declared.line.ArchLine.{ArchLine}
use Rattle.arch_file.specs.Faults.{at_line}
use Rattle.arch_file.specs.Judge.{is_passed, judge}
use Rattle.arch_file.specs.Reading.{entries_from}

-- the lines from a place on
lines_from : (ls : List Line) (i : ℕ) → i < length ls → drop i ls ≡ get_or ls i no_line ∷ drop (i + 1) ls
lines_from ls i lt = rw add-one (drop-cons ls i no_line lt)

passes_first : (before : List ArchLine) (l : Line) (ls : List Line) → is_passed l.words ≡ true → entries_from before (l ∷ ls) ≡ entries_from before ls
unfolding entries_from
passes_first before l ls e = rw e refl

takes_first : (before : List ArchLine) (l : Line) (ls : List Line) (line : ArchLine) → is_passed l.words ≡ false → judge before l.words ≡ Ok line → entries_from before (l ∷ ls) ≡ entries_from (before ++ line ∷ []) ls
unfolding entries_from
takes_first before l ls line e j = rw (e, j) refl

refuses_first : (before : List ArchLine) (l : Line) (ls : List Line) (fault : LineFault) → is_passed l.words ≡ false → judge before l.words ≡ Err fault → entries_from before (l ∷ ls) ≡ Err (at_line fault l.number)
unfolding entries_from
refuses_first before l ls fault e j = rw (e, j) refl

pub passes : (before : List ArchLine) (ls : List Line) (i : ℕ) → i < length ls → is_passed (words_at ls i) ≡ true → entries_from before (drop (i + 1) ls) ≡ entries_from before (drop i ls)
passes before ls i lt e = sym (ap (entries_from before) (lines_from ls i lt) ∙ passes_first before (get_or ls i no_line) (drop (i + 1) ls) e)

pub takes : (before : List ArchLine) (ls : List Line) (i : ℕ) (line : ArchLine) → i < length ls → is_passed (words_at ls i) ≡ false → judge before (words_at ls i) ≡ Ok line → entries_from (before ++ line ∷ []) (drop (i + 1) ls) ≡ entries_from before (drop i ls)
takes before ls i line lt e j = sym (ap (entries_from before) (lines_from ls i lt) ∙ takes_first before (get_or ls i no_line) (drop (i + 1) ls) line e j)

pub refuses : (before : List ArchLine) (ls : List Line) (i : ℕ) (fault : LineFault) → i < length ls → is_passed (words_at ls i) ≡ false → judge before (words_at ls i) ≡ Err fault → entries_from before (drop i ls) ≡ Err (at_line fault (number_at ls i))
refuses before ls i fault lt e j = ap (entries_from before) (lines_from ls i lt) ∙ refuses_first before (get_or ls i no_line) (drop (i + 1) ls) fault e j

pub ends : (before : List ArchLine) (ls : List Line) (i : ℕ) → length ls ≤ i → entries_from before (drop i ls) ≡ Ok before
unfolding entries_from
ends before ls i le = ap (entries_from before) (drop_all i ls le)
