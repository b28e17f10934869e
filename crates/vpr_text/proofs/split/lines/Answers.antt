use Rattle.std.proofs.Common.{sym, ap, ◌∙◌, Ok}
use Rattle.vpr_text.proofs.Texts.{lines_of-too_long, lines_of-bad, lines_of-fine}
use Rattle.vpr_text.proofs.split.lines.Goals as goal

pub returns-then-source-gt-MAX_LEN : goal.returns-then-source-gt-MAX_LEN
returns-then-source-gt-MAX_LEN c = λ _. lines_of-too_long c.args.source.now c.if-source-gt-MAX_LEN.true

pub returns-in-Some : goal.returns-in-Some
returns-in-Some c = λ _. lines_of-bad c.args.source.now c.in-Some.number c.if-source-gt-MAX_LEN.false (sym c.in-Some.ensures)

pub returns : goal.returns
returns c = lines_of-fine c.args.source.now c.if-source-gt-MAX_LEN.false (sym c.bad_line.ensures ∙ c.in_default.is) ∙ ap Ok (sym c.in_ok-lines.ensures)
