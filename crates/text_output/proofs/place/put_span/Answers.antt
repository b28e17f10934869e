use Rattle.std.proofs.Common.{◌≡◌, true, false, sym, ◌∙◌}
use Rattle.vpr_text.proofs.Printing.{sends_then}
use Rattle.text_output.specs.NodeTexts.{is_one_place, span_text}
use Rattle.text_output.proofs.place.put_span.Goals as goal

pub returns-then-is_one_place : goal.returns-then-is_one_place
unfolding span_text
returns-then-is_one_place g c =
    let one : is_one_place c.args.span ≡ true = sym c.is_one_place.ensures ∙ c.if-is_one_place.true in
    rw one c.put_place.ensures

pub returns : goal.returns
unfolding span_text
returns g c =
    let one : is_one_place c.args.span ≡ false = sym c.is_one_place.ensures ∙ c.if-is_one_place.false in
    rw one (sends_then c.put_place.ensures (sends_then c.push.ensures c.put_place-2.ensures))
