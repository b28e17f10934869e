use Rattle.std.proofs.Common.{sym, ap, ◌∙◌}
use Rattle.arch_file.specs.Reading.{missing_of}
use Rattle.arch_file.proofs.Kept.{within}
use Rattle.arch_file.proofs.reading.read.Goals as goal

pub architecture-requires : goal.architecture-requires
architecture-requires c =
    let complete = ap missing_of (sym c.deref.ensures.value) ∙ sym c.missing.ensures ∙ c.in_default.is in
    rw c.deref-2.ensures.value (within c.args.lines.now c.in_ok-entries.entries.items c.in_ok-entries.ensures complete)
