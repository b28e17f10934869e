use Rattle.std.proofs.Common.{◌<◌, ◌≤◌, length, drop, Ok, sym, ap, ◌∙◌, arith}
use Rattle.std.proofs.lemmas.List.{length-drop}
use Rattle.std.proofs.lemmas.Result.{err_from_is_err_and}
use Rattle.vpr_text.specs.Readings.{unless_faulty}
use Rattle.route_file.specs.kept.LinesSeen.{lists_by_net}
use Rattle.route_file.proofs.Steps.{stepped, refused, ended}
use Rattle.route_file.proofs.reading.lists_by_net.Goals as goal
use Rattle.vpr_text.proofs.Rows.{row_number, row_words}

pub returns-in_err-entry : goal.returns-in_err-entry
returns-in_err-entry c =
    let lines = c.args.lines.now in
    let netlist = c.args.netlist.now in
    let f = c.args.device.now in
    let within : c.loop-i.i < length (drop 2 lines) = omega (arith, length-drop 2 lines, c.len-i-end.ensures, c.loop-i-test.true) in
    let at = c.line_number.ensures ∙ row_number lines c.loop-i.i in
    let here = c.new-words.ensures ∙ row_words lines c.loop-i.i in
    let fault = refused netlist f (drop 2 lines) c.loop-i.i c.line_number.result c.new-words.result c.loop-i.seen c.judge.result c.in_err-entry.field-0.0 within at here c.judge.ensures c.in_err-entry.was c.loop-i.invariant in
    let p = err_from_is_err_and c.from_residual-in_err-entry.result c.from_residual-in_err-entry.ensures.1 in
    rw (p.1, p.2) (λ _. ap (λ x. unless_faulty x (Ok (lists_by_net netlist f (drop 2 lines)))) fault)

pub loop-i-preserved : goal.loop-i-preserved
loop-i-preserved c =
    let lines = c.args.lines.now in
    let within : c.loop-i.i < length (drop 2 lines) = omega (arith, length-drop 2 lines, c.len-i-end.ensures, c.loop-i-test.true) in
    let at = c.line_number.ensures ∙ row_number lines c.loop-i.i in
    let here = c.new-words.ensures ∙ row_words lines c.loop-i.i in
    stepped c.args.netlist.now c.args.device.now (drop 2 lines) c.loop-i.i c.line_number.result c.new-words.result c.loop-i.seen c.note.new.self c.judge.result c.in_ok-entry.entry within at here c.judge.ensures c.in_ok-entry.was
    c.in_ok-note.ensures c.loop-i.invariant

pub returns : goal.returns
returns c =
    let lines = c.args.lines.now in
    let netlist = c.args.netlist.now in
    let f = c.args.device.now in
    let past : length (drop 2 lines) ≤ c.loop-i.i = omega (arith, length-drop 2 lines, c.len-i-end.ensures, c.loop-i-test.false) in
    let end = ended netlist f (drop 2 lines) c.loop-i.i c.loop-i.seen past c.loop-i.invariant in
    ap (λ x. unless_faulty x (Ok (lists_by_net netlist f (drop 2 lines)))) end.0 ∙ ap Ok (sym end.1 ∙ sym c.into_lists.ensures)
