use Rattle.std.proofs.Common.{◌≡◌, length, subst, arith}
use Rattle.std.specs.Prelude.{slice_range}
use Rattle.vpr_text.specs.kept.Split.{GivesUp}
use Rattle.vpr_text.proofs.Splitting.{text_of_line, AddsLine-made, added_fit}
use Rattle.vpr_text.proofs.split.push_line.Goals as goal

pub give_up-requires-clause-fits : goal.give_up-requires-clause-fits
give_up-requires-clause-fits c =
    let len = c.args.ranges.now.ok.0 in
    added_fit c.args.source.now c.args.ranges.now.items c.push_words.new.ranges.items c.len-first.result _ (omega arith) (c.in_ok-push_words.ensures)

pub returns : goal.returns
returns c =
    let len = c.args.ranges.now.ok.0 in
    let first : c.len-first.result ≡ length c.args.ranges.now.items = omega arith in
    let text = text_of_line c.args.source.now c.args.from c.args.to c.find-text_end.result (omega arith) (omega arith) c.find-text_end.ensures.found in
    AddsLine-made c.args.source.now c.args.ranges.now.items c.push_words.new.ranges.items c.give_up.new.ranges.items (slice_range c.args.source.now c.args.from c.args.to)
    (slice_range c.args.source.now c.args.from c.find-text_end.result) c.give_up.result text (c.in_ok-push_words.ensures)
    (subst (λ n. GivesUp c.args.source.now n c.push_words.new.ranges.items c.give_up.new.ranges.items c.give_up.result) first c.give_up.ensures)
