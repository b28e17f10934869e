use Rattle.std.proofs.Common.{sym, ◌∙◌, arith}
use Rattle.std.proofs.lemmas.Result.{IfOk-weaker}
use Rattle.vpr_text.proofs.Splitting.{IsSplitting-at, IsSplitting-passes, IsSplitting-ends}
use Rattle.vpr_text.proofs.split.push_words.Goals as goal
use Rattle.vpr_text.proofs.split.push_words.Goals.{then-is_separator+in_ok-push_range, else-is_separator}

pub loop-i-preserved : goal.loop-i-preserved
loop-i-preserved c =
    elim c.if-is_separator.branch [
      | then-is_separator+in_ok-push_range w ↦ rw (w.ranges-is, w.start-is)
          (IsSplitting-at c.args.source.now c.args.ranges.now.items c.loop-i.ranges.items w.push_range.new.ranges.items c.loop-i.start c.loop-i.i c.args.to _
          c.loop-i-test.true (omega arith) (sym c.is_separator.ensures ∙ w.if-is_separator.true) (w.in_ok-push_range.ensures) c.loop-i.invariant)
      | else-is_separator w ↦ rw (w.ranges-is, w.start-is)
          (IsSplitting-passes c.args.source.now c.args.ranges.now.items c.loop-i.ranges.items c.loop-i.start c.loop-i.i c.args.to _
          (sym c.is_separator.ensures ∙ w.if-is_separator.false) c.loop-i.invariant)
    ]

pub returns : goal.returns
returns c =
    IfOk-weaker c.push_range-2.result _ _ (λ _ e. IsSplitting-ends c.args.source.now c.args.ranges.now.items c.loop-i.ranges.items c.push_range-2.new.ranges.items c.loop-i.start c.loop-i.i c.args.to _ (omega arith) (omega arith) c.loop-i.invariant e) c.push_range-2.ensures
