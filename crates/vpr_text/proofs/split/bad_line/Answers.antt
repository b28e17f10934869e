use Rattle.std.proofs.Common.{◌+◌, ◌∙◌, sym, ap, drop, get_or, arith}
use Rattle.std.proofs.lemmas.Bool.{eq-eqb, ne_eqb}
use Rattle.std.proofs.lemmas.List.{at_drop_more, at_drop_all}
use Rattle.vpr_text.specs.Text.{bad_line_from}
use Rattle.vpr_text.proofs.BadLines.{bad_line_from-bad, bad_line_from-feed, bad_line_from-plain}
use Rattle.vpr_text.proofs.split.bad_line.Goals as goal
use Rattle.vpr_text.proofs.split.bad_line.Goals.{then-byte-eq-LINE_FEED, else-byte-eq-LINE_FEED}

pub returns-then-is_bad : goal.returns-then-is_bad
returns-then-is_bad c =
    let bytes = c.args.source.now in
    let e = at_drop_more (bad_line_from c.loop-byte.number) bytes c.loop-byte.byte-index 0 c.loop-byte-test.true in
    sym (bad_line_from-bad c.loop-byte.number (get_or bytes c.loop-byte.byte-index 0) (drop (c.loop-byte.byte-index + 1) bytes) (sym c.is_bad.ensures ∙ c.if-is_bad.true)) ∙ sym e ∙ c.loop-byte.invariant.1

pub loop-byte-preserved : goal.loop-byte-preserved
loop-byte-preserved c =
    let bytes = c.args.source.now in
    let b = get_or bytes c.loop-byte.byte-index 0 in
    let rest = drop (c.loop-byte.byte-index + 1) bytes in
    let e = at_drop_more (bad_line_from c.loop-byte.number) bytes c.loop-byte.byte-index 0 c.loop-byte-test.true in
    elim c.if-byte-eq-LINE_FEED.branch [
      | then-byte-eq-LINE_FEED w ↦ (
        omega arith,
        ap (λ n. bad_line_from n rest) w.number-is ∙ sym (bad_line_from-feed c.loop-byte.number b rest (eq-eqb _ _ w.if-byte-eq-LINE_FEED.true)) ∙ sym e ∙ c.loop-byte.invariant.1,
      )
      | else-byte-eq-LINE_FEED w ↦ (
        omega arith,
        ap (λ n. bad_line_from n rest) w.number-is ∙ sym (bad_line_from-plain c.loop-byte.number b rest (sym c.is_bad.ensures ∙ c.if-is_bad.false) (ne_eqb _ _ w.if-byte-eq-LINE_FEED.false)) ∙ sym e ∙ c.loop-byte.invariant.1,
      )
    ]

pub returns : goal.returns
returns c =
    sym (at_drop_all (bad_line_from c.loop-byte.number) c.args.source.now c.loop-byte.byte-index c.loop-byte-test.false) ∙ c.loop-byte.invariant.1
