use Rattle.std.proofs.Common.{subst}
use Rattle.text_output.specs.Printing.{PrintsTo}
use Rattle.text_output.proofs.Printing.{prints_then, prints_none}
use Rattle.runs.proofs.Lines.{line_text, no_line}
use Rattle.runs.proofs.listing.put_line.Goals as goal

pub returns-in-None : goal.returns-in-None
returns-in-None g c =
    let sink = g.W.ByteSink in
    let s = c.args.out.now in
    subst (PrintsTo sink s s) (no_line c.args.is_typed c.args.device.now c.args.id c.in-None.ensures.node) (prints_none s)

pub returns : goal.returns
returns g c =
    let sink = g.W.ByteSink in
    let s = c.args.out.now in
    let t = c.push-3.new.self in
    let text = line_text c.args.is_typed c.args.device.now c.args.id c.in-Some.node c.in-Some-span.span c.in-Some-label.label c.in-Some-capacity.capacity c.in-Some.ensures.node c.in-Some-span.ensures c.in-Some-label.ensures c.in-Some-capacity.ensures in
    subst (PrintsTo sink s t) text (prints_then c.put_number.ensures (prints_then c.push.ensures (prints_then c.put_node.ensures (prints_then c.push-2.ensures (prints_then c.put_number-2.ensures (prints_then c.put_type_if.ensures c.push-3.ensures))))))
