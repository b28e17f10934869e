-- The lines after the first two.
use Rattle.std.proofs.Common.{◌≡◌, ℕ, ◌+◌, List, get_or, drop, sym, ap, arith}
use Rattle.std.proofs.lemmas.List.{get_or-drop}
use Rattle.vpr_text.specs.Words.{Line, no_line, number_at, words_at}

row_line : (lines : List Line) (row : ℕ) → get_or lines (row + 2) no_line ≡ get_or (drop 2 lines) row no_line
row_line lines row = let e : row + 2 ≡ 2 + row = omega arith in rw e (sym (get_or-drop 2 lines row no_line))

pub row_number : (lines : List Line) (row : ℕ) → number_at lines (row + 2) ≡ number_at (drop 2 lines) row
row_number lines row = ap (λ l. l.number) (row_line lines row)

pub row_words : (lines : List Line) (row : ℕ) → words_at lines (row + 2) ≡ words_at (drop 2 lines) row
row_words lines row = ap (λ l. l.words) (row_line lines row)
