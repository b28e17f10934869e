use Rattle.std.proofs.Common.{◌≡◌, ◌<◌, [], ◌∷◌, ◌++◌, true, false, length, Ok, Err, sym, ap, ◌∙◌, arith}
use Rattle.vpr_text.specs.Words.{words_at}
use Rattle.arch_file.specs.Judge.{is_passed, judge}
use Rattle.arch_file.proofs.Lines.{passes, takes, refuses, ends}
use Rattle.arch_file.proofs.reading.entries.Goals as goal
use Rattle.arch_file.proofs.reading.entries.Goals.{then-not-is_passed+in-Ok+in_ok-push-in-Ok, else-not-is_passed}

pub returns-in-Err : goal.returns-in-Err
returns-in-Err c =
    let ls = c.args.lines.now in
    let i = c.loop-i.i in
    let within : i < length ls = omega (arith, c.len-i-end.ensures, c.loop-i-test.true) in
    let read : is_passed (words_at ls i) ≡ false = ap is_passed (sym c.new-words.ensures) ∙ sym c.is_passed.ensures ∙ c.if-not-is_passed.true in
    let judged : judge c.loop-i.entries.items (words_at ls i) ≡ Err c.in-Err.fault = ap (λ es. judge es (words_at ls i)) (sym c.deref.ensures.value) ∙ ap (judge c.deref.result.now) (sym c.new-words.ensures) ∙ sym c.in-Err.ensures in
    let e = sym c.loop-i.invariant ∙ refuses c.loop-i.entries.items ls i c.in-Err.fault within read judged in
    rw (c.at-in-Err.ensures, c.at.ensures) (λ _. e)

pub loop-i-preserved : goal.loop-i-preserved
loop-i-preserved c =
    let ls = c.args.lines.now in
    let i = c.loop-i.i in
    let es = c.loop-i.entries.items in
    let within : i < length ls = omega (arith, c.len-i-end.ensures, c.loop-i-test.true) in
    elim c.if-not-is_passed.branch [
      | then-not-is_passed+in-Ok+in_ok-push-in-Ok w ↦
          let read : is_passed (words_at ls i) ≡ false = ap is_passed (sym c.new-words.ensures) ∙ sym c.is_passed.ensures ∙ w.if-not-is_passed.true in
          let judged : judge es (words_at ls i) ≡ Ok w.in-Ok.line = ap (λ front. judge front (words_at ls i)) (sym w.deref.ensures.value) ∙ ap (judge w.deref.result.now) (sym c.new-words.ensures) ∙ sym w.in-Ok.ensures in
          let more : c.if-not-is_passed.entries.items ≡ es ++ w.in-Ok.line ∷ [] = ap (λ v. v.items) w.entries-is ∙ w.in_ok-push-in-Ok.ensures.items in
          rw more (takes es ls i w.in-Ok.line within read judged ∙ c.loop-i.invariant)
      | else-not-is_passed w ↦
          let read : is_passed (words_at ls i) ≡ true = ap is_passed (sym c.new-words.ensures) ∙ sym c.is_passed.ensures ∙ w.if-not-is_passed.false in
          rw w.entries-is (passes es ls i within read ∙ c.loop-i.invariant)
    ]

pub returns : goal.returns
returns c = sym c.loop-i.invariant ∙ ends c.loop-i.entries.items c.args.lines.now c.loop-i.i (omega (arith, c.len-i-end.ensures, c.loop-i-test.false))
