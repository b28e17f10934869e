use Rattle.std.proofs.Common.{◌≡◌, inr, ◌+◌, ◌∷◌, [], ◌++◌, length, get_or, sym, ap, subst, ◌∙◌, arith, length-append}
use Rattle.std.specs.Prelude.{take}
use Rattle.std.proofs.lemmas.List.{take_more, get_or_default}
use Rattle.congestion_book.specs.declared.events.Event.TheVariants.{Close}
use Rattle.congestion_book.specs.Runs.{Runs, TakesMemory}
use Rattle.congestion_book.proofs.Running.{runs_more}
use Rattle.congestion_book.proofs.book.Book.run.Goals as goal

pub loop-index-preserved : goal.loop-index-preserved
loop-index-preserved c =
    let kept = c.loop-index.invariant in
    let es = c.args.events.now in
    let i = c.loop-index.index in
    let event = c.index-events-index.result in
    let all = runs_more (take i es) c.loop-index.replies.items c.args.self.now c.loop-index.self c.step.new.self
    c.args.view.now c.loop-index.view c.step.new.view event c.in-Ok-step.reply kept.so_far c.in-Ok-step.ensures.step c.in-Ok-step.ensures.sound in
    let front : take (i + 1) es ≡ take i es ++ event ∷ [] =
    take_more es i event c.loop-index-test.true ∙ ap (λ e. take i es ++ e ∷ []) (sym c.index-events-index.is) in
    let replies = c.push_reserved.ensures.items in
    record {
      so_far = subst (λ xs. Runs c.args.self.now c.args.view.now xs c.push_reserved.new.self.items c.step.new.self c.step.new.view) (sym front)
          (subst (λ rs. Runs c.args.self.now c.args.view.now (take i es ++ event ∷ []) rs c.step.new.self c.step.new.view) (sym replies) all);
      count = omega (arith, ap length replies, length-append c.loop-index.replies.items (c.in-Ok-step.reply ∷ []), kept.count);
      room = omega (arith, kept.room, c.push_reserved.ensures.capacity);
    }

pub returns-in-Err-step-clause-stopped : goal.returns-in-Err-step-clause-stopped
returns-in-Err-step-clause-stopped c =
    let es = c.args.events.now in
    let i = c.loop-index.index in
    let low = c.loop-index-test.true in
    let event = c.index-events-index.result in
    let at : event ≡ get_or es i Close = c.index-events-index.is ∙ get_or_default es i event Close low in
    let step = c.in-Err-step.ensures in
    let replies = c.loop-index.replies.items in
    let view = subst (λ v. Runs c.args.self.now c.args.view.now (take i es) replies c.loop-index.self v) (sym step.unseen) c.loop-index.invariant.so_far in (
      low,
      inr (subst (TakesMemory c.step.new.self) at (subst (λ k. TakesMemory k event) (sym step.refused) step.wants)),
      (replies, subst (λ k. Runs c.args.self.now c.args.view.now (take i es) replies k c.step.new.view) (sym step.refused) view),
    )
