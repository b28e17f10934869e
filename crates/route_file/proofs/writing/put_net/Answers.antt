use Rattle.std.proofs.Common.{true, false, sym, ◌∙◌}
use Rattle.std.specs.Prelude.{slice_index_or, None}
use Rattle.text_output.proofs.Printing.{prints_none}
use Rattle.route_file.proofs.NetTexts.{lines_of_global, lines_of_other}
use Rattle.route_file.proofs.writing.put_net.Goals as goal

pub returns-then-is_global : goal.returns-then-is_global
returns-then-is_global g c =
    let list = slice_index_or c.args.lists.now c.args.place None in
    let lines = lines_of_global c.args.placed.now.netlist.now c.args.placed.now.placement.now c.args.placed.now.device.now c.args.number c.args.net.now list (sym c.is_global.ensures ∙ c.if-is_global.true) in
    rw lines c.put_global_net.ensures

pub returns-then-is_routed : goal.returns-then-is_routed
returns-then-is_routed g c =
    let list = slice_index_or c.args.lists.now c.args.place None in
    let lines = lines_of_other c.args.placed.now.netlist.now c.args.placed.now.placement.now c.args.placed.now.device.now c.args.number c.args.net.now list true (sym c.is_global.ensures ∙ c.if-is_global.false) (sym c.is_routed.ensures ∙ c.if-is_routed.true) in
    rw lines (rw c.name.ensures at c.put_routed_net.ensures)

pub returns-else-is_routed : goal.returns-else-is_routed
returns-else-is_routed g c =
    let sink = g.W.ByteSink in
    let s = c.args.out.now in
    let list = slice_index_or c.args.lists.now c.args.place None in
    let lines = lines_of_other c.args.placed.now.netlist.now c.args.placed.now.placement.now c.args.placed.now.device.now c.args.number c.args.net.now list false (sym c.is_global.ensures ∙ c.if-is_global.false) (sym c.is_routed.ensures ∙ c.if-is_routed.false) in
    rw lines (prints_none s)
