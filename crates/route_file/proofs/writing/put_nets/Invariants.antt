use Rattle.std.proofs.Common.{◌≡◌, length}
use Rattle.route_file.specs.Text.{net_lines, routed_before}
use Rattle.route_file.proofs.Sending.{Lacks}
use Rattle.route_file.proofs.NetTexts.{nets_text}
use Rattle.route_file.proofs.writing.put_nets.Given as goal

-- what is lacking are the lines of the nets to come, and the list of the next routed net is next in
-- the routing
abbrev pub invariant-loop-number : goal.invariant-loop-number
invariant-loop-number g l =
    let sink = g.W.ByteSink in
    let lines = net_lines l.placed.netlist.now l.placed.placement.now l.placed.device.now l.lists in
    Lacks sink l.initial.out l.out
    (nets_text lines l.number (length l.placed.netlist.now.nets)) (nets_text lines 0 (length l.placed.netlist.now.nets))
    × (l.place ≡ routed_before l.placed.netlist.now l.number)
