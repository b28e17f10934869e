-- What splitting a text gives, case by case.
use Rattle.std.proofs.Common.{◌≡◌, ℕ, ◌^◌, ◌<◌, ◌≤◌, Bool, cond, List, length, Some, None, Option, Ok, Err, ap, ◌∙◌}
use Rattle.std.proofs.lemmas.Bool.{lt-ltb, le-ltb}
use Rattle.vpr_text.specs.declared.fault.TextFault.TheVariants.{TooLong, BadByte}
use Rattle.vpr_text.specs.Words.{words_of}
use Rattle.vpr_text.specs.Text.{bad_line_from, lines_or_bad, lines_of}

pub lines_of-too_long : (bytes : List ℕ) → 2 ^ 24 < length bytes → lines_of bytes ≡ Err TooLong
unfolding lines_of
lines_of-too_long bytes lt = ap (λ (b : Bool). cond b (Err TooLong) (lines_or_bad (bad_line_from 1 bytes) bytes)) (lt-ltb (2 ^ 24) (length bytes) lt)

lines_of-short : (bytes : List ℕ) → length bytes ≤ 2 ^ 24 → lines_of bytes ≡ lines_or_bad (bad_line_from 1 bytes) bytes
unfolding lines_of
lines_of-short bytes le = ap (λ (b : Bool). cond b (Err TooLong) (lines_or_bad (bad_line_from 1 bytes) bytes)) (le-ltb (2 ^ 24) (length bytes) le)

pub lines_of-bad : (bytes : List ℕ) (n : ℕ) → length bytes ≤ 2 ^ 24 → bad_line_from 1 bytes ≡ Some n → lines_of bytes ≡ Err (BadByte n)
lines_of-bad bytes n le e = lines_of-short bytes le ∙ ap (λ (o : Option ℕ). lines_or_bad o bytes) e

pub lines_of-fine : (bytes : List ℕ) → length bytes ≤ 2 ^ 24 → bad_line_from 1 bytes ≡ None → lines_of bytes ≡ Ok (words_of bytes)
lines_of-fine bytes le e = lines_of-short bytes le ∙ ap (λ (o : Option ℕ). lines_or_bad o bytes) e
