use Rattle.std.proofs.Common.{◌<◌, ◌≤◌, length, drop, Ok, sym, ap, ◌∙◌, refl, arith}
use Rattle.std.proofs.lemmas.List.{length-drop}
use Rattle.vpr_text.specs.Readings.{unless_faulty}
use Rattle.place_file.specs.Sites.{sites_in}
use Rattle.place_file.proofs.Steps.{no_rows, count_sites, stepped, refused, ended}
use Rattle.place_file.proofs.rows.sites_in.Goals as goal
use Rattle.vpr_text.proofs.Rows.{row_number, row_words}

pub loop-row-init : goal.loop-row-init
loop-row-init c = (c.in_ok-sites.ensures.array, (no_rows c.args.netlist.now.blocks c.in_ok-sites.sites.sites _ (ap length c.blocks-blocks.ensures.entry) c.in_ok-sites.ensures.none, refl))

pub judge-requires-clause-count : goal.judge-requires-clause-count
judge-requires-clause-count c = ap length c.loop-row.invariant.1.0 ∙ count_sites c.args.netlist.now.blocks _

pub returns-in-Some : goal.returns-in-Some
returns-in-Some c =
    let lines = c.args.lines.now in
    let within : c.loop-row.row < length (drop 2 lines) = omega (arith, length-drop 2 lines, c.len-row-end.ensures, c.loop-row-test.true) in
    let at = c.at.ensures ∙ row_number lines c.loop-row.row in
    let here = c.new-words.ensures ∙ row_words lines c.loop-row.row in
    λ _.
    ap (λ f. unless_faulty f (Ok (sites_in c.args.netlist.now.blocks (drop 2 lines))))
    (refused c.args.array c.args.netlist.now.blocks (drop 2 lines) c.loop-row.row c.loop-row.sites.sites c.at.result c.new-words.result c.in-Some.fault within at here (sym c.in-Some.is ∙ c.judge.ensures.exact) c.loop-row.invariant.1)

pub loop-row-preserved : goal.loop-row-preserved
loop-row-preserved c =
    let lines = c.args.lines.now in
    let within : c.loop-row.row < length (drop 2 lines) = omega (arith, length-drop 2 lines, c.len-row-end.ensures, c.loop-row-test.true) in
    let at = c.at.ensures ∙ row_number lines c.loop-row.row in
    let here = c.new-words.ensures ∙ row_words lines c.loop-row.row in
    (c.judge.ensures.array, stepped c.args.array c.args.netlist.now.blocks (drop 2 lines) c.loop-row.row c.loop-row.sites.sites c.judge.new.sites.sites c.at.result c.new-words.result c.judge.result within at here c.judge.ensures.exact c.in_default.is (c.judge.ensures.put c.in_default.is) c.loop-row.invariant.1)

pub returns : goal.returns
returns c =
    let lines = c.args.lines.now in
    let past : length (drop 2 lines) ≤ c.loop-row.row = omega (arith, length-drop 2 lines, c.len-row-end.ensures, c.loop-row-test.false) in
    let end = ended c.args.array c.args.netlist.now.blocks (drop 2 lines) c.loop-row.row c.loop-row.sites.sites past c.loop-row.invariant.1 in
    ap (λ f. unless_faulty f (Ok (sites_in c.args.netlist.now.blocks (drop 2 lines)))) end.0 ∙ ap Ok (sym end.1)
