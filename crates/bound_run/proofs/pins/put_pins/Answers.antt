use Rattle.std.proofs.Common.{[], subst, take, sym, ap, ◌∙◌}
use Rattle.std.specs.List.{flat_map}
use Rattle.std.proofs.lemmas.List.{flat_map_more, take_more}
use Rattle.text_output.specs.Printing.{PrintsTo}
use Rattle.text_output.proofs.Printing.{prints_then}
use Rattle.bound_run.specs.CutTexts.{pin_text}
use Rattle.bound_run.proofs.pins.put_pins.Goals as goal

pub loop-pin-preserved : goal.loop-pin-preserved
loop-pin-preserved g c =
    let sink = g.W.ByteSink in
    let s = c.args.out.now in
    let t = c.put_pin.new.out in
    let more = flat_map_more (pin_text c.args.placed.now) [] (take c.loop-pin.pin-index c.args.pins.now) _ ∙ ap (flat_map (pin_text c.args.placed.now)) (sym (take_more c.args.pins.now c.loop-pin.pin-index _ c.loop-pin-test.true)) in
    subst (PrintsTo sink s t) more (prints_then c.loop-pin.invariant c.put_pin.ensures)
