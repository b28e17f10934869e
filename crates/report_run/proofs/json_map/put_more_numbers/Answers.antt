use Rattle.std.proofs.Common.{[], subst, take, sym, ap, ◌∙◌}
use Rattle.std.specs.List.{flat_map}
use Rattle.std.proofs.lemmas.List.{flat_map_more, take_more}
use Rattle.text_output.specs.Printing.{PrintsTo}
use Rattle.text_output.proofs.Printing.{prints_then}
use Rattle.std.specs.Prelude.{decimal}
use Rattle.report_run.specs.Json.{next_item}
use Rattle.report_run.proofs.json_map.put_more_numbers.Goals as goal

pub loop-number-preserved : goal.loop-number-preserved
loop-number-preserved g c =
    let sink = g.W.ByteSink in
    let s = c.args.out.now in
    let t = c.put_next_number.new.out in
    let line = next_item decimal in
    let more = flat_map_more line [] (take c.loop-number.number-index c.args.numbers.now) _ ∙ ap (flat_map line) (sym (take_more c.args.numbers.now c.loop-number.number-index _ c.loop-number-test.true)) in
    subst (PrintsTo sink s t) more (prints_then c.loop-number.invariant c.put_next_number.ensures)
