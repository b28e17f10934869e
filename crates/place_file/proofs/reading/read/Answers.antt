use Rattle.std.proofs.Common.{sym, subst, ◌∙◌}
use Rattle.place_file.specs.kept.OccupiedSites.{IsFit}
use Rattle.place_file.proofs.Steps.{header_fit}
use Rattle.place_file.proofs.reading.read.Goals as goal

-- src/reading.rt:32:5
pub placing-requires-clause-fit : goal.placing-requires-clause-fit
placing-requires-clause-fit c = subst IsFit (sym c.array_on.ensures) (header_fit _ _ c.requires (sym c.header_fault.ensures ∙ c.in_default.is))
