use Rattle.std.proofs.Common.{take}
use Rattle.std.specs.List.{flat_map}
use Rattle.text_output.specs.Printing.{PrintsTo}
use Rattle.report_run.specs.Texts.{name_text}
use Rattle.report_run.proofs.overused.put_names.Given as goal

-- the names of the nets so far were sent
abbrev pub invariant-loop-net : goal.invariant-loop-net
invariant-loop-net g l =
    let sink = g.W.ByteSink in
    PrintsTo sink l.initial.out l.out (flat_map (name_text l.netlist l.problem) (take l.net-index l.nets))
