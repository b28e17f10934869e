use Rattle.std.proofs.Common.{take}
use Rattle.text_output.specs.Printing.{PrintsTo}
use Rattle.report_run.specs.kept.Members.{parts_text}
use Rattle.report_run.proofs.json_parts.put_parts.Given as goal

-- the parts so far were sent
abbrev pub invariant-loop-part : goal.invariant-loop-part
invariant-loop-part g l =
    PrintsTo g.W.ByteSink l.initial.out l.out (parts_text (take l.part-index l.parts))
