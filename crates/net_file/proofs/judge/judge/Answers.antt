use Rattle.std.proofs.Common.{true, false, sym, ◌∙◌}
use Rattle.net_file.proofs.Judging.{judged_early, judged_late}
use Rattle.net_file.proofs.judge.judge.Goals as goal

pub returns-in-Some : goal.returns-in-Some
returns-in-Some c = judged_early c.args.pins c.args.seen.now c.args.words.now c.in-Some.fault (sym c.fault_of.ensures ∙ c.in-Some.is)

pub returns-then-are_too_many : goal.returns-then-are_too_many
returns-then-are_too_many c =
    judged_late c.args.pins c.args.seen.now c.note.new.self c.args.words.now true (sym c.fault_of.ensures ∙ c.in_default.is) c.in_ok-note.ensures (sym c.are_too_many.ensures ∙ c.if-are_too_many.true)

pub returns : goal.returns
returns c =
    judged_late c.args.pins c.args.seen.now c.note.new.self c.args.words.now false (sym c.fault_of.ensures ∙ c.in_default.is) c.in_ok-note.ensures (sym c.are_too_many.ensures ∙ c.if-are_too_many.false)
